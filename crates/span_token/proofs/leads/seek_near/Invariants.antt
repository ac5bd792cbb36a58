use Rattle.std.proofs.Common.{◌≡◌, ◌≤◌, take}
use Rattle.span_token.specs.Leads.{leads}
use Rattle.span_token.proofs.leads.seek_near.Given as goal

abbrev pub invariant-loop-at : goal.invariant-loop-at
invariant-loop-at l = (leads (take l.at l.bytes) ≡ l.passed) × (l.passed ≤ l.place)
