use Rattle.std.proofs.Common.{◌≡◌}
use Rattle.row_values.specs.Rows.{ColumnLiesIn}
use Rattle.span_joins_tests.proofs.tests.given_in.Given as goal

abbrev pub invariant-loop-begin : goal.invariant-loop-begin
invariant-loop-begin l = record {
  width : l.rows.width ≡ 2;
  within : ColumnLiesIn l.doc 1 l.rows.rows;
}
