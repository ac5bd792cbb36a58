use Rattle.std.proofs.Common.{◌≡◌, ◌↔◌, Bool, List, IsTrue, sym, ◌∙◌, true≢false}
use Rattle.std.specs.Cmp.{IsTotalOrder}
use Rattle.std.specs.declared.cmp.Ordering.{Ordering}
use Rattle.std.specs.declared.cmp.Ordering.TheVariants.{Equal}
use Rattle.aql_base.specs.Bags.{OccursEquallyOften, SameBag}
use Rattle.aql_base.specs.CountLaws.{OccursEquallyOften-from_elements, SameBag-from_counts, counts_from_SameBag}
use Rattle.aql_base.proofs.bag.same_bag.Goals as goal

-- what counts decide, bags decide too where the order tells all values apart
both : {X : Type 0} {cmp : X → X → Ordering} (order : IsTotalOrder cmp) (a b : List X) (r : Bool) → (IsTrue r ↔ OccursEquallyOften cmp a b)
    → record { counts : IsTrue r ↔ OccursEquallyOften cmp a b; exact : ((x y : X) → cmp x y ≡ Equal → x ≡ y) → IsTrue r ↔ SameBag a b }
both order a b r told = record {
  counts = told;
  exact = λ exact. (λ e. SameBag-from_counts order exact a b (told.0 e), λ bag. told.1 (counts_from_SameBag order exact a b bag));
}

pub returns-then-counted_alike : goal.returns-then-counted_alike
returns-then-counted_alike g c =
    both g.met.T.Ord.total c.args.a.now c.args.b.now c.counted_alike-then-counted_alike.result (
      λ e. OccursEquallyOften-from_elements g.met.T.Ord.total c.args.a.now c.args.b.now (c.counted_alike.ensures.0 c.if-counted_alike.true) (c.counted_alike-then-counted_alike.ensures.0 e),
      λ often. c.counted_alike-then-counted_alike.ensures.1 (λ k d below. often _),
    )

pub returns-else-counted_alike : goal.returns-else-counted_alike
returns-else-counted_alike g c =
    both g.met.T.Ord.total c.args.a.now c.args.b.now c.counted_alike.result (
      λ e. absurd (true≢false (sym e ∙ c.if-counted_alike.false)),
      λ often. c.counted_alike.ensures.1 (λ k d below. often _),
    )
