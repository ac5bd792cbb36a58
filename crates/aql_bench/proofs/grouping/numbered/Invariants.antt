use Rattle.std.proofs.Common.{◌≡◌}
use Rattle.aql_bench.proofs.grouping.numbered.Given as goal

abbrev pub invariant-loop-i : goal.invariant-loop-i
invariant-loop-i l = Unit {0}

abbrev pub invariant-loop-key : goal.invariant-loop-key
invariant-loop-key l = l.rows.width ≡ 2
