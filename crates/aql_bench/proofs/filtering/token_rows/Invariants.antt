use Rattle.std.proofs.Common.{All}
use Rattle.row_values.specs.Datums.{IsOfDocument}
use Rattle.aql_bench.proofs.filtering.token_rows.Given as goal

abbrev pub invariant-loop-i : goal.invariant-loop-i
invariant-loop-i l = All (All (IsOfDocument l.doc)) l.rows.items
