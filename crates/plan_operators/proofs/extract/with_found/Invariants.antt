use Rattle.std.proofs.Common.{◌≡◌, ◌+◌, take}
use Rattle.row_values.specs.Rows.{RowsLieIn}
use Rattle.aql_typed.specs.Fitting.{found_width}
use Rattle.algebra.specs.Operators.{with_found}
use Rattle.row_operators.specs.Searches.{extraction_for}
use Rattle.plan_operators.proofs.extract.with_found.Given as goal

abbrev pub invariant-loop-row : goal.invariant-loop-row
invariant-loop-row l = record {
  rows : l.out.rows ≡ with_found l.fn.tools l.doc (extraction_for l.search) (take l.row-index l.row-items);
  width : l.out.width ≡ l.rows.width + found_width (extraction_for l.search);
  lies : RowsLieIn l.doc l.out.rows;
  same : l.tools ≡ l.fn.tools;
}
