use Rattle.std.proofs.Common.{◌≡◌}
use Rattle.group_agg_tests.proofs.tests.mixed.Given as goal

abbrev pub invariant-loop-i : goal.invariant-loop-i
invariant-loop-i l = l.rows.width ≡ 1
