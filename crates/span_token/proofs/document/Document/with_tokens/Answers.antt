use Rattle.std.proofs.Common.{◌∙◌, ap, length, arith}
use Rattle.std.proofs.lemmas.List.{take_all}
use Rattle.span_token.specs.Leads.{leads}
use Rattle.span_token.proofs.LeadsLemmas.{leads-chars}
use Rattle.span_token.proofs.document.Document.with_tokens.Goals as goal

pub invariant_of-result : goal.invariant_of-result
invariant_of-result c = record {
  utf8 = c.utf8.text;
  short = c.requires.short;
  count = c.leads_before-characters.ensures ∙ ap leads (take_all (length c.args.text.now) c.args.text.now (omega arith)) ∙ leads-chars c.args.text.now c.utf8.text;
  places = c.in_ok-places.ensures;
  tokens = c.requires.fits;
  offsets = c.requires.offsets;
}
