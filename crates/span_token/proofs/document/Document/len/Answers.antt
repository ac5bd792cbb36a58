use Rattle.std.proofs.Common.{arith}
use Rattle.span_token.proofs.LeadsLemmas.{leads-chars, leads-le-length}
use Rattle.span_token.proofs.document.Document.len.Goals as goal

pub returns-clause-short : goal.returns-clause-short
returns-clause-short c =
    omega (arith, leads-chars c.self.inside.text.now c.self.invariant.utf8, leads-le-length c.self.inside.text.now)
