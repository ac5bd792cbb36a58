use Rattle.std.proofs.Common.{sym}
use Rattle.span_token.proofs.SourceLemmas.{seen-length, seen-order}
use Rattle.span_token.proofs.source_tokens.SourceTokens.len.Goals as goal

pub returns-clause-len : goal.returns-clause-len
returns-clause-len c = sym (seen-length c.self.inside c.args.self.now c.self.view_is c.self.invariant)

pub returns-clause-order : goal.returns-clause-order
returns-clause-order c = seen-order c.self.inside c.args.self.now c.self.view_is c.self.invariant
