use Rattle.std.proofs.Common.{arith}
use Rattle.span_token.specs.Documents.{characters}
use Rattle.span_token.proofs.ContextLemmas.{count_between}
use Rattle.span_token.proofs.relations.tokens_between.Goals as goal

pub returns : goal.returns
returns c =
    omega (arith, c.saturating_sub.ensures, c.ended_by.ensures, c.begun_before.ensures, count_between (characters c.args.doc.now) c.args.from c.args.to)
