use Rattle.std.proofs.Common.{◌≡◌}
use Rattle.group_agg_tests.proofs.tests.column.Given as goal

abbrev pub invariant-loop-value : goal.invariant-loop-value
invariant-loop-value l = l.rows.width ≡ 1
