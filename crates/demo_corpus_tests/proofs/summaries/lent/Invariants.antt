use Rattle.std.proofs.Common.{◌≡◌, vec_len}
use Rattle.demo_corpus_tests.proofs.summaries.lent.Given as goal

abbrev pub invariant-loop-list : goal.invariant-loop-list
invariant-loop-list l = vec_len l.lent ≡ l.list-index
