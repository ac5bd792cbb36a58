use Rattle.std.proofs.Common.{subst}
use Rattle.aql_base.specs.SortingLaws.{sorted_from_answer}
use Rattle.row_values.specs.RowOrder.{row_cmp_total}
use Rattle.row_values.specs.Rows.{IsInOrder}
use Rattle.row_values.specs.SortedRows.{sorted-in_order, IsInOrder-sorted}
use Rattle.row_values.proofs.order.is_in_order.Goals as goal

pub returns : goal.returns
returns c =
    let told = sorted_from_answer row_cmp_total _ _ c.is_sorted.ensures.cases in
    rw (← c.as_slice.ensures) (record {
      order = told;
      sorted = (λ e. sorted-in_order c.as_slice.result.now (told.0 e), λ e. told.1 (subst IsInOrder e (IsInOrder-sorted c.as_slice.result.now)));
    })
