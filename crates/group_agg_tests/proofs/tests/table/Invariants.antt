use Rattle.std.proofs.Common.{◌≡◌}
use Rattle.group_agg_tests.proofs.tests.table.Given as goal

abbrev pub invariant-loop-first : goal.invariant-loop-first
invariant-loop-first l = l.rows.width ≡ 2
