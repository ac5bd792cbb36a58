use Rattle.std.proofs.Common.{◌≡◌}
use Rattle.row_values.specs.Rows.{ColumnLiesIn}
use Rattle.aql_bench.proofs.joining.rows_within.Given as goal

abbrev pub invariant-loop-each : goal.invariant-loop-each
invariant-loop-each l = record {
  width : l.rows.width ≡ 1;
  within : ColumnLiesIn l.doc 0 l.rows.rows;
}
