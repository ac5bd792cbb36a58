use Rattle.std.proofs.Common.{◌≡◌, ◌≤◌, ◌-◌, length, take}
use Rattle.span_token.specs.Leads.{leads}
use Rattle.span_token.proofs.leads.seek.Given as goal

abbrev pub invariant-eights : goal.invariant-eights
invariant-eights l = (l.at ≤ length l.bytes) × (leads (take l.at l.bytes) ≡ l.passed) × (l.passed ≤ l.place)

abbrev pub decreases-eights : goal.decreases-eights
decreases-eights l = length l.bytes - l.at
