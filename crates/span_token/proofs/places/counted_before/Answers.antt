use Rattle.std.proofs.Common.{arith, ◌*◌, ◌/◌}
use Rattle.span_token.proofs.BlockLemmas.{leads_from}
use Rattle.span_token.proofs.places.counted_before.Goals as goal

pub returns : goal.returns
returns c =
    omega (arith, c.count_leads.ensures, c.requires.counts.number, c.requires.counts.each (c.args.byte / 64) (omega (arith, c.requires.counts.number, c.requires.within)), leads_from c.args.bytes.now (64 * (c.args.byte / 64)) c.args.byte (omega arith))
