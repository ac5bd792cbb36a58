use Rattle.std.proofs.Common.{◌≡◌}
use Rattle.corpus_json_tests.proofs.tests.rows_of_two.Given as goal

abbrev pub invariant-loop-pair : goal.invariant-loop-pair
invariant-loop-pair l = l.rows.width ≡ 2
