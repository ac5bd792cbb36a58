use Rattle.std.proofs.Common.{◌≡◌, ◌≤◌, take}
use Rattle.span_token.specs.Leads.{leads}
use Rattle.span_token.proofs.leads.count_leads.Given as goal

abbrev pub invariant-loop-byte : goal.invariant-loop-byte
invariant-loop-byte l = (l.found ≡ leads (take l.byte-index l.bytes)) × (l.found ≤ l.byte-index)
