use Rattle.std.proofs.Common.{◌≡◌, vec_len}
use Rattle.demo_corpus_tests.proofs.summaries.outputs.Given as goal

abbrev pub invariant-loop-name : goal.invariant-loop-name
invariant-loop-name l = vec_len l.outputs ≡ l.name-index
