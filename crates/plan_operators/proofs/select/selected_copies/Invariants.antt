use Rattle.std.proofs.Common.{◌≡◌, map, take}
use Rattle.row_values.specs.Rows.{RowsLieIn}
use Rattle.scalar_ops.specs.Views.{term_of}
use Rattle.aql_typed.specs.Meaning.{selected}
use Rattle.plan_operators.proofs.select.selected_copies.Given as goal

abbrev pub invariant-loop-row : goal.invariant-loop-row
invariant-loop-row l = record {
  rows : l.out.rows ≡ selected l.fn.tools l.doc (map term_of l.conds) (take l.row-index l.row-items);
  width : l.out.width ≡ l.rows.width;
  lies : RowsLieIn l.doc l.rows.rows → RowsLieIn l.doc l.out.rows;
  same : l.tools ≡ l.fn.tools;
}
