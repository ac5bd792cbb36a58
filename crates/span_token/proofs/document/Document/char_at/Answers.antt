use Rattle.std.proofs.Common.{◌∙◌, arith, take}
use Rattle.std.proofs.lemmas.Str.{IsUtf8-take}
use Rattle.span_token.proofs.LeadsLemmas.{leads-chars, leads-within}
use Rattle.span_token.proofs.document.Document.char_at.Goals as goal

pub returns-clause-char : goal.returns-clause-char
returns-clause-char c =
    c.leads_before.ensures.leads
    ∙ leads-chars (take c.args.byte c.args.self.now.text) (IsUtf8-take c.args.self.now.text c.args.byte c.leads_before.ensures.utf8 c.requires.boundary)

pub returns-clause-within : goal.returns-clause-within
returns-clause-within c =
    omega (arith, c.leads_before.ensures.leads, leads-within c.args.byte c.args.self.now.text, leads-chars c.args.self.now.text c.leads_before.ensures.utf8)
