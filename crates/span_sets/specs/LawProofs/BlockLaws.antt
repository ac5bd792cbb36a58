-- A list of spans has one list of blocks, and goes by its bag alone.
use Rattle.std.proofs.Common.{◌≡◌, ℕ, List, map, sym, ap, subst, ◌∙◌, arith, Contains}
use Rattle.std.proofs.lemmas.List.Sorted.{IsPermutation-sym, Contains-permutation}
use Rattle.aql_base.specs.Bags.{SameBag}
use Rattle.span_token.specs.Extents.{Extent}
use Rattle.span_token.specs.RisingLists.{same_in_order}
use Rattle.span_token.specs.SourceTokens.{run_extent}
use Rattle.span_token.specs.SpanOrderLaws.{in_order_is_unique}
use Rattle.span_sets.specs.Blocks.{AreDistinct, AreBlocksOf, AreBlocks}
use Rattle.span_sets.specs.LawProofs.BlockLists.{IsEarlier}

earlier_apart : (p q : ℕ × ℕ) → IsEarlier p q → IsEarlier q p → ⊥
earlier_apart p q h k = omega (arith, h, k)

pub AreDistinct-unique : (spans a b : List Extent) → AreDistinct spans a → AreDistinct spans b → a ≡ b
AreDistinct-unique spans a b is_a is_b = in_order_is_unique (Contains spans) a b is_a is_b

pub AreBlocksOf-unique : (IsNext : Extent → Extent → Type 0) (low high : ℕ) (spans a b : List Extent) → AreBlocksOf IsNext low high spans a → AreBlocksOf IsNext low high spans b → a ≡ b
AreBlocksOf-unique IsNext low high spans a b is_a is_b =
    let runs : is_a.runs ≡ is_b.runs = same_in_order IsEarlier earlier_apart is_a.runs is_b.runs is_a.rising is_b.rising
    (λ r at. (is_b.exactly r.0 r.1).1 ((is_a.exactly r.0 r.1).0 at)) (λ r at. (is_a.exactly r.0 r.1).1 ((is_b.exactly r.0 r.1).0 at)) in
    is_a.blocks_are ∙ ap (λ (rs : List (ℕ × ℕ)). map (λ r. run_extent spans r.0 r.1) rs) runs ∙ sym is_b.blocks_are

-- one list of blocks for each list of spans
pub AreBlocks-unique : (IsNext : Extent → Extent → Type 0) (low high : ℕ) (spans a b : List Extent) → AreBlocks IsNext low high spans a → AreBlocks IsNext low high spans b → a ≡ b
AreBlocks-unique IsNext low high spans a b is_a is_b =
    AreBlocksOf-unique IsNext low high is_b.distinct a b
    (subst (λ (ds : List Extent). AreBlocksOf IsNext low high ds a) (AreDistinct-unique spans is_a.distinct is_b.distinct is_a.are_distinct is_b.are_distinct) is_a.are_blocks) is_b.are_blocks

-- and for each bag of spans
pub AreBlocks-SameBag : (IsNext : Extent → Extent → Type 0) (low high : ℕ) (spans spans' blocks : List Extent) → SameBag spans spans' → AreBlocks IsNext low high spans blocks → AreBlocks IsNext low high spans' blocks
AreBlocks-SameBag IsNext low high spans spans' blocks bag is = record {
  distinct = is.distinct;
  are_distinct = record {
    rising = is.are_distinct.rising;
    exactly = λ e. (
      λ at. Contains-permutation spans spans' e bag ((is.are_distinct.exactly e).0 at),
      λ at. (is.are_distinct.exactly e).1 (Contains-permutation spans' spans e (IsPermutation-sym spans spans' bag) at),
    );
  };
  are_blocks = is.are_blocks;
}
