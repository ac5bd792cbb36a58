use Rattle.std.proofs.Common.{◌≡◌}
use Rattle.demo_corpus_tests.proofs.summaries.copies.Given as goal

abbrev pub invariant-copies : goal.invariant-copies
invariant-copies l = l.rows.width ≡ 1
