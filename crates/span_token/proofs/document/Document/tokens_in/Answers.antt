use Rattle.std.proofs.Common.{arith}
use Rattle.span_token.specs.Extents.{extent_of}
use Rattle.span_token.specs.Documents.{characters}
use Rattle.span_token.proofs.ContextLemmas.{tokens_within}
use Rattle.span_token.proofs.document.Document.tokens_in.Goals as goal

pub returns-clause-tokens : goal.returns-clause-tokens
returns-clause-tokens c =
    tokens_within (characters c.args.self.now) (extent_of c.args.span) c.begun_before-first.result c.max.result c.begun_before-first.ensures
    (omega (arith, c.max.ensures, c.ended_by-past.ensures))
