use Rattle.std.proofs.Common.{◌≡◌, ◌+◌, length}
use Rattle.demo_corpus_tests.proofs.summaries.totals_of_200.Given as goal

abbrev pub invariant-documents : goal.invariant-documents
invariant-documents l = (l.totals.documents ≡ l._i + 1) × (length l.totals.totals ≡ 11)
