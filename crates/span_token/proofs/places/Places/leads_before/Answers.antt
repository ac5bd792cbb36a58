use Rattle.std.proofs.Common.{sym}
use Rattle.span_token.proofs.BlockLemmas.{leads-ascii_take}
use Rattle.span_token.proofs.places.Places.leads_before.Goals as goal

pub returns-in-Ascii : goal.returns-in-Ascii
returns-in-Ascii c = sym (leads-ascii_take c.args.byte c.args.text.now (rw c.in-Ascii.is at c.requires.fits) c.requires.within)
