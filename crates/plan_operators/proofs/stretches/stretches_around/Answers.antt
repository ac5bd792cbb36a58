use Rattle.std.proofs.Common.{List, subst, sym, rules}
use Rattle.std.proofs.lemmas.List.Sorted.{IsNonDecreasingBy-from_sort_by_key}
use Rattle.plan_operators.specs.declared.stretches.Stretch.{Stretch}
use Rattle.plan_operators.specs.Neighbourhoods.{FirstsRise, IsInSome}
use Rattle.plan_operators.proofs.StretchLemmas.{around-more, in-sorted}
use Rattle.plan_operators.proofs.stretches.stretches_around.Goals as goal

pub merged-requires : goal.merged-requires
merged-requires c = record {
  rise = subst FirstsRise (sym c.as_slice.ensures.value)
      (IsNonDecreasingBy-from_sort_by_key (λ (s : Stretch). s.first) _ c.sort_unstable_by_key.ensures.sorted (λ a r f h. search rules));
}

pub returns-clause-around : goal.returns-clause-around
returns-clause-around c =
    let one = c.in_ok-all.all.items in
    let sorted = c.sort_unstable_by_key.new.self.items in
    around-more c.args.doc.now c.args.kind c.args.lc c.args.reach one c.in_ok-all-2.all.items
    (λ i some. c.in_ok-all-2.ensures.same i (subst (λ (ss : List Stretch). IsInSome ss i) (sym c.as_slice.ensures.value) (in-sorted one sorted c.sort_unstable_by_key.ensures.permutation i some)))
    c.args.outer.now.rows c.in_ok-all.ensures
