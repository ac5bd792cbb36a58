use Rattle.std.proofs.Common.{◌≡◌}
use Rattle.span_sets_tests.proofs.tests.numbered.Given as goal

abbrev pub invariant-loop-number : goal.invariant-loop-number
invariant-loop-number l = l.rows.width ≡ 1
