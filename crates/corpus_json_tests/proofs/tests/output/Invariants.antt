use Rattle.std.proofs.Common.{◌≡◌, length}
use Rattle.corpus_json_tests.proofs.tests.output.Given as goal

abbrev pub invariant-loop-column : goal.invariant-loop-column
invariant-loop-column l = length l.names ≡ l.column-index
