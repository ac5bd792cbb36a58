use Rattle.std.proofs.Common.{◌≤◌, ◌<◌, ◌*◌, ◌-◌, length, get_or}
use Rattle.span_token.proofs.places.block_from.Given as goal

abbrev pub invariant-steps : goal.invariant-steps
invariant-steps l = (l.low < length l.counts) × (get_or l.counts l.low 0 ≤ l.place) × (0 < l.step) × (l.step ≤ 2 * length l.counts)

abbrev pub decreases-steps : goal.decreases-steps
decreases-steps l = length l.counts - l.low
