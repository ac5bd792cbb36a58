use Rattle.std.proofs.Common.{◌≡◌, vec_len}
use Rattle.demo_corpus_tests.proofs.summaries.equal_rows.Given as goal

abbrev pub invariant-loop-count : goal.invariant-loop-count
invariant-loop-count l = vec_len l.rows ≡ l.count-index
