use Rattle.std.proofs.Common.{◌+◌, ◌-◌, drop, arith, slice_range}
use Rattle.std.proofs.lemmas.List.{length-take}
use Rattle.span_token.proofs.BlockLemmas.{leads_from}
use Rattle.span_token.proofs.LeadsLemmas.{leads-le-length}
use Rattle.span_token.proofs.leads.seek.Goals as goal

pub eights-preserved : goal.eights-preserved
eights-preserved c =
    let bytes = c.as_bytes-bytes.result.now in
    let at = c.eights.at in
    let more = leads_from bytes at (at + 8) (omega arith) in
    let few = leads-le-length (slice_range bytes at (at + 8)) in
    let long = length-take (at + 8 - at) (drop at bytes) in (
      omega (arith, c.eights-test.true, c.eights.invariant.0),
      omega (arith, more, c.eights.invariant.1, c.count_leads.ensures),
      omega (arith, few, long, c.count_leads.ensures, c.if-place-passed-ge8.true, c.eights.invariant.2),
    )
