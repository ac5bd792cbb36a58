use Rattle.std.proofs.Common.{◌≡◌}
use Rattle.corpus_json_tests.proofs.tests.rows_of_one.Given as goal

abbrev pub invariant-loop-value : goal.invariant-loop-value
invariant-loop-value l = l.rows.width ≡ 1
