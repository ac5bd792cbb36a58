-- Blocks as a function: the tests decide what they are named after, and the blocks that they give are the one answer.
use Rattle.std.proofs.Common.{◌≡◌, ℕ, zero, suc, ◌+◌, ◌-◌, ◌<◌, ◌↔◌, Bool, true, false, ◌&&◌, nat_le, List, [], ◌∷◌, ◌++◌, length, map, refl, sym, ap, subst, arith, Contains, T, inl, inr}
use Rattle.std.specs.Prelude.{ℤ, pos, int_le, ◌≤ℤ◌}
use Rattle.std.specs.Cmp.{IsTotalOrder}
use Rattle.std.specs.Int.Signed.{le_z_yes}
use Rattle.std.specs.List.{dedup, list_all, range_with_len}
use Rattle.std.specs.List.Sorted.{IsPermutation}
use Rattle.std.specs.Ordering.{eq_by_cmp, nat_cmp}
use Rattle.std.specs.declared.cmp.Ordering.TheVariants.{Less, Equal}
use Rattle.std.proofs.lemmas.Bool.{and_from, and_parts, leb-true, le-leb}
use Rattle.std.proofs.lemmas.Cmp.{nat_cmp_total, on_total, then_total, eq_by_cmp_equiv}
use Rattle.std.proofs.lemmas.List.Kept.{AllPairs-from_increasing, IsStrictlyIncreasing-filter, IsStrictlySortedBy-dedup, Any-dedup, Contains-from_dedup}
use Rattle.std.proofs.lemmas.List.Sorted.{IsPermutation-sym, Contains-permutation}
use Rattle.aql_base.specs.Bags.{SameBag}
use Rattle.aql_base.specs.Sorting.{sorted_by}
use Rattle.aql_base.specs.CountLaws.{told}
use Rattle.aql_base.specs.SortingLaws.{SameBag-sorted_by, IsSorted-sorted_by, sorted_by-SameBag}
use Rattle.span_token.specs.Documents.{Doc, characters}
use Rattle.span_token.specs.Extents.{Extent, nth_extent}
use Rattle.span_token.specs.Relations.{Follows, FollowsTok, does_follow, does_follow_tok, tokens_between}
use Rattle.span_token.specs.SourceTokens.{run_extent}
use Rattle.span_token.specs.SpanOrder.{IsBefore, extent_cmp}
use Rattle.span_token.specs.Tokens.{tokens_of}
use Rattle.span_token.specs.ExtentLaws.{same_extent}
use Rattle.span_token.specs.RisingLists.{Contains-cases, Contains-here, Contains-there, Contains-range, in_range}
use Rattle.span_token.specs.SpanOrderLaws.{before_from_Less}
use Rattle.span_sets.specs.Blocks.{IsNeighbour, AreDistinct, IsRun, AreBlocks, is_neighbour, is_run, ends_of, blocks_before, distinct_of, blocks_of}
use Rattle.span_sets.specs.LawProofs.BlockLaws.{AreBlocks-unique}
use Rattle.span_sets.specs.LawProofs.BlockLists.{HasRuns, HasRuns-none, HasRuns-more, HasRuns-all}
use Rattle.span_sets.specs.LawProofs.CandidateLists.{pairs, nat_exact, then_equal}
use Rattle.span_sets.specs.LawProofs.Keeping.{Contains-filter, Contains-from_filter, IsStrictlyIncreasing-range}
use Rattle.span_sets.specs.LawProofs.RuleTests.{Decides}
use Rattle.span_sets.specs.LawProofs.SpanLists.{AllPairs-weaker}

held : (b : Bool) → T b → b ≡ true
held true h = refl
held false h = absurd h

le_from : (x y : ℤ) → int_le x y ≡ true → x ≤ℤ y
le_from x y e = le_z_yes (subst (λ b. T b) (sym e) tt)

does_follow-decides : (low high : ℤ) (a b : Extent) → Decides (does_follow a b low high) (Follows a b low high)
does_follow-decides low high a b =
    let n = b.begin - a.end in (
      λ e.
          let outer = and_parts (nat_le a.end b.begin) (int_le low (pos n) && int_le (pos n) high) e in
          let inner = and_parts (int_le low (pos n)) (int_le (pos n) high) outer.1 in
          record { in_order = leb-true a.end b.begin outer.0; at_least = le_from low (pos n) inner.0; at_most = le_from (pos n) high inner.1 },
      λ f.
          and_from (nat_le a.end b.begin) (int_le low (pos n) && int_le (pos n) high) (le-leb a.end b.begin f.in_order)
          (and_from (int_le low (pos n)) (int_le (pos n) high) (held (int_le low (pos n)) f.at_least.le) (held (int_le (pos n) high) f.at_most.le)),
    )

does_follow_tok-decides : (tokens : List Extent) (low high : ℤ) (a b : Extent) → Decides (does_follow_tok tokens a b low high) (FollowsTok tokens a b low high)
does_follow_tok-decides tokens low high a b =
    let n = tokens_between tokens a.end b.begin in (
      λ e.
          let outer = and_parts (nat_le a.end b.begin) (int_le low (pos n) && int_le (pos n) high) e in
          let inner = and_parts (int_le low (pos n)) (int_le (pos n) high) outer.1 in
          record { in_order = leb-true a.end b.begin outer.0; at_least = le_from low (pos n) inner.0; at_most = le_from (pos n) high inner.1 },
      λ f.
          and_from (nat_le a.end b.begin) (int_le low (pos n) && int_le (pos n) high) (le-leb a.end b.begin f.in_order)
          (and_from (int_le low (pos n)) (int_le (pos n) high) (held (int_le low (pos n)) f.at_least.le) (held (int_le (pos n) high) f.at_most.le)),
    )

pub is_neighbour-decides : (doc : Doc) (tokens : Bool) (low high : ℤ) (a b : Extent) → Decides (is_neighbour doc tokens low high a b) (IsNeighbour doc tokens low high a b)
is_neighbour-decides doc false low high a b = does_follow-decides low high a b
is_neighbour-decides doc true low high a b = does_follow_tok-decides (tokens_of (characters doc)) low high a b

each_is : (p : ℕ → Bool) (xs : List ℕ) → list_all p xs ≡ true → (x : ℕ) → Contains xs x → p x ≡ true
each_is p [] e x at = absurd (omega (arith, at.1))
each_is p (y ∷ ys) e x at =
    let both = and_parts (p y) (list_all p ys) e in
    elim (Contains-cases y ys x at) [ inl same ↦ subst (λ n. p n ≡ true) same both.0 | inr later ↦ each_is p ys both.1 x later ]

is_each : (p : ℕ → Bool) (xs : List ℕ) → ((x : ℕ) → Contains xs x → p x ≡ true) → list_all p xs ≡ true
is_each p [] h = refl
is_each p (y ∷ ys) h = and_from (p y) (list_all p ys) (h y (Contains-here y ys)) (is_each p ys (λ x at. h x (Contains-there y ys x at)))

module _ (is_next : Extent → Extent → Bool) (IsNext : Extent → Extent → Type 0) (decides : (a b : Extent) → (is_next a b ≡ true) ↔ IsNext a b) (low high : ℕ) where
  module _ (spans : List Extent) where
    abbrev next_at : ℕ → Bool
    next_at k = is_next (nth_extent spans k) (nth_extent spans (k + 1))

    is_run-decides : (i j : ℕ) → j < length spans → Decides (is_run is_next low high spans i j) (IsRun IsNext low high spans i j)
    is_run-decides i j short =
        let most = nat_le ((j - i) + 1) high && list_all next_at (range_with_len i (j - i)) in
        let least = nat_le low ((j - i) + 1) && most in (
          λ e.
              let one = and_parts (nat_le i j) least e in
              let two = and_parts (nat_le low ((j - i) + 1)) most one.1 in
              let three = and_parts (nat_le ((j - i) + 1) high) (list_all next_at (range_with_len i (j - i))) two.1 in
              record {
                ordered = leb-true i j one.0;
                there = short;
                at_least = leb-true low ((j - i) + 1) two.0;
                at_most = leb-true ((j - i) + 1) high three.0;
                neighbours = λ k from to. (decides (nth_extent spans k) (nth_extent spans (k + 1))).0 (each_is next_at (range_with_len i (j - i)) three.1 k (Contains-range i (j - i) k from (omega (arith, to, from))));
              },
          λ run.
              and_from (nat_le i j) least (le-leb i j run.ordered)
              (and_from (nat_le low ((j - i) + 1)) most (le-leb low ((j - i) + 1) run.at_least)
              (and_from (nat_le ((j - i) + 1) high) (list_all next_at (range_with_len i (j - i))) (le-leb ((j - i) + 1) high run.at_most)
              (is_each next_at (range_with_len i (j - i)) (λ k at.
              let there = in_range i (j - i) k at in
              (decides (nth_extent spans k) (nth_extent spans (k + 1))).1 (run.neighbours k there.0 (omega (arith, there, run.ordered))))))),
        )

    runs_at : (i j : ℕ) → Contains (ends_of is_next low high spans i) j ↔ IsRun IsNext low high spans i j
    runs_at i j = (
      λ at.
          let own = Contains-from_filter (is_run is_next low high spans i) (range_with_len 0 (length spans)) j at in
          (is_run-decides i j (omega (arith, in_range 0 (length spans) j own.0))).0 own.1,
      λ run. Contains-filter (is_run is_next low high spans i) (range_with_len 0 (length spans)) j (Contains-range 0 (length spans) j (omega arith) (omega (arith, run.there))) ((is_run-decides i j run.there).1 run),
    )

    HasRuns-before : (n : ℕ) → HasRuns IsNext low high spans n (blocks_before is_next low high spans n)
    HasRuns-before zero = HasRuns-none IsNext low high spans
    HasRuns-before (suc i) =
        let next : i + 1 ≡ suc i = omega arith in
        subst (λ n. HasRuns IsNext low high spans n (blocks_before is_next low high spans i ++ map (run_extent spans i) (ends_of is_next low high spans i))) next
        (HasRuns-more IsNext low high spans i (ends_of is_next low high spans i) (AllPairs-from_increasing (ends_of is_next low high spans i) (IsStrictlyIncreasing-filter (is_run is_next low high spans i) (range_with_len 0 (length spans)) (IsStrictlyIncreasing-range (length spans))))
        (runs_at i) (blocks_before is_next low high spans i) (HasRuns-before i))

  extent_cmp_total : IsTotalOrder extent_cmp
  extent_cmp_total = then_total (on_total (λ (e : Extent). e.begin) nat_cmp_total) (on_total (λ (e : Extent). e.end) nat_cmp_total)

  extent_cmp_exact : (a b : Extent) → extent_cmp a b ≡ Equal → a ≡ b
  extent_cmp_exact a b e =
      let both = then_equal (nat_cmp a.begin b.begin) (nat_cmp a.end b.end) e in
      same_extent a b (nat_exact a.begin b.begin both.0) (nat_exact a.end b.end both.1)

  AreDistinct-distinct_of : (spans : List Extent) → AreDistinct spans (distinct_of spans)
  AreDistinct-distinct_of spans =
      let E = eq_by_cmp extent_cmp in
      let sorted : List Extent = sorted_by extent_cmp spans in
      let bag : IsPermutation spans sorted = SameBag-sorted_by extent_cmp_total spans in
      record {
        rising = AllPairs-weaker (λ a b. extent_cmp a b ≡ Less) IsBefore before_from_Less (dedup E sorted) (pairs extent_cmp (dedup E sorted) (IsStrictlySortedBy-dedup extent_cmp_total (λ a b. refl) sorted (IsSorted-sorted_by extent_cmp_total spans)));
        exactly = λ e. (
          λ at. Contains-permutation sorted spans e (IsPermutation-sym spans sorted bag) (Contains-from_dedup E sorted e at),
          λ at.
              let kept = Any-dedup (eq_by_cmp_equiv extent_cmp_total) sorted e (Contains-permutation spans sorted e bag at) in
              subst (λ x. Contains (dedup E sorted) x) (sym (told extent_cmp_total extent_cmp_exact e kept.1 kept.4)) (kept.0, kept.2, kept.3),
        );
      }

  -- the function gives the blocks
  pub AreBlocks-blocks_of : (spans : List Extent) → AreBlocks IsNext low high spans (blocks_of is_next low high spans)
  unfolding blocks_of
  AreBlocks-blocks_of spans =
      let ds : List Extent = distinct_of spans in
      record {
        distinct = ds;
        are_distinct = AreDistinct-distinct_of spans;
        are_blocks = HasRuns-all IsNext low high ds (blocks_before is_next low high ds (length ds)) (HasRuns-before ds (length ds));
      }

  -- and each answer is it
  pub AreBlocks-only : (spans blocks : List Extent) → AreBlocks IsNext low high spans blocks → blocks ≡ blocks_of is_next low high spans
  AreBlocks-only spans blocks h = AreBlocks-unique IsNext low high spans blocks (blocks_of is_next low high spans) h (AreBlocks-blocks_of spans)

  -- one list for each bag of spans
  pub blocks_of-SameBag : (spans spans' : List Extent) → SameBag spans spans' → blocks_of is_next low high spans ≡ blocks_of is_next low high spans'
  unfolding blocks_of
  blocks_of-SameBag spans spans' bag =
      ap (λ (xs : List Extent). blocks_before is_next low high (dedup (eq_by_cmp extent_cmp) xs) (length (dedup (eq_by_cmp extent_cmp) xs))) (sorted_by-SameBag extent_cmp_total extent_cmp_exact spans spans' bag)
