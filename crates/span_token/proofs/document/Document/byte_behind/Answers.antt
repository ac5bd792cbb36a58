use Rattle.std.proofs.Common.{ap, arith}
use Rattle.span_token.specs.Documents.{len_of}
use Rattle.span_token.proofs.LeadsLemmas.{leads-chars}
use Rattle.span_token.proofs.document.Document.byte_behind.Goals as goal

pub byte_behind-requires-clause-exists : goal.byte_behind-requires-clause-exists
byte_behind-requires-clause-exists c =
    omega (arith, c.requires.exists, ap len_of c.self.view_is, leads-chars c.self.inside.text.now c.self.invariant.utf8)
