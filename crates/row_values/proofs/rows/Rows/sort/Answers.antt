use Rattle.std.proofs.Common.{◌≡◌, length, ap, sym, arith}
use Rattle.std.proofs.lemmas.List.Sorted.{All-permutation}
use Rattle.aql_base.specs.SortingLaws.{sorted_from_answer}
use Rattle.row_values.specs.RowOrder.{row_cmp_total}
use Rattle.row_values.specs.SortedRows.{sorted-unique, sorted-in_order}
use Rattle.row_values.proofs.rows.Rows.sort.Goals as goal

pub invariant_of-self : goal.invariant_of-self
invariant_of-self c = (
  omega (arith, c.sort_unstable.ensures.len, c.self.invariant.0),
  All-permutation (λ row. length row ≡ c.self.inside.width) _ _ c.sort_unstable.ensures.permutation c.self.invariant.1,
)

pub returns-then-not-is_sorted : goal.returns-then-not-is_sorted
returns-then-not-is_sorted c = rw (← c.self.view_is)
    (ap (λ rows. record { width = c.self.inside.width; rows = rows }) (sorted-unique c.self.inside.rows.items _ c.sort_unstable.ensures.sorted c.sort_unstable.ensures.permutation))

pub returns-else-not-is_sorted : goal.returns-else-not-is_sorted
returns-else-not-is_sorted c = rw (← c.self.view_is)
    (ap (λ rows. record { width = c.self.inside.width; rows = rows }) (sym (sorted-in_order c.self.inside.rows.items
    (rw (← c.as_slice.ensures.value) ((sorted_from_answer row_cmp_total _ _ c.is_sorted.ensures.cases).0 c.if-not-is_sorted.false)))))
