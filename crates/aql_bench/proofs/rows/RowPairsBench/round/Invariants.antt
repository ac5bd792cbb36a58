use Rattle.std.proofs.Common.{◌≡◌}
use Rattle.aql_bench.proofs.rows.RowPairsBench.round.Given as goal

abbrev pub invariant-loop-first : goal.invariant-loop-first
invariant-loop-first l = l.rows.width ≡ 2
