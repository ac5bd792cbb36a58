use Rattle.std.proofs.Common.{◌≡◌}
use Rattle.span_sets_tests.proofs.tests.tagged.Given as goal

abbrev pub invariant-loop-ends : goal.invariant-loop-ends
invariant-loop-ends l = l.rows.width ≡ 2
