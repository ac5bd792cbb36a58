use Rattle.std.proofs.Common.{List, ℕ, ap, arith, slice_range, sym}
use Rattle.span_token.specs.Leads.{leads}
use Rattle.span_token.proofs.BlockLemmas.{leads-ascii_take, leads_from}
use Rattle.span_token.proofs.places.Places.leads_behind.Goals as goal

pub returns-in-Ascii : goal.returns-in-Ascii
returns-in-Ascii c = sym (leads-ascii_take c.args.byte c.args.text.now (rw c.in-Ascii.is at c.requires.fits) c.requires.within)

pub returns-then-byte-from-le-BLOCK : goal.returns-then-byte-from-le-BLOCK
returns-then-byte-from-le-BLOCK c =
    omega (arith, c.requires.passed, leads_from c.args.text.now c.args.from c.args.byte c.requires.ordered, c.count_leads.ensures, ap (λ (bytes : List ℕ). leads (slice_range bytes c.args.from c.args.byte)) c.as_bytes.ensures.value)
