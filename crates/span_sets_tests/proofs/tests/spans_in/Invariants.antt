use Rattle.std.proofs.Common.{All}
use Rattle.span_token.specs.Documents.{LiesIn}
use Rattle.span_token.specs.Extents.{extent_of}
use Rattle.span_sets_tests.proofs.tests.spans_in.Given as goal

abbrev pub invariant-loop-begin : goal.invariant-loop-begin
invariant-loop-begin l = All (λ s. LiesIn (extent_of s) l.doc) l.spans.items
