use Rattle.std.proofs.Common.{◌≡◌, map, take, length}
use Rattle.row_values.specs.Rows.{RowsLieIn}
use Rattle.scalar_ops.specs.Views.{term_of}
use Rattle.aql_typed.specs.Meaning.{row_of}
use Rattle.row_operators.proofs.values.values_for_each.Given as goal

abbrev pub invariant-loop-row : goal.invariant-loop-row
invariant-loop-row l = record {
  rows : l.out.rows ≡ map (row_of l.fn.tools l.doc (map term_of l.items)) (take l.row-index l.rows);
  width : l.out.width ≡ length l.items;
  lies : RowsLieIn l.doc l.out.rows;
  same : l.tools ≡ l.fn.tools;
}
