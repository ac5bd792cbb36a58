use Rattle.std.proofs.Common.{◌≤◌, ◌<◌, ◌*◌, length, get_or}
use Rattle.span_token.proofs.places.block_before.Given as goal

abbrev pub invariant-steps : goal.invariant-steps
invariant-steps l = (l.high < length l.counts) × (l.place < get_or l.counts l.high 0) × (0 < l.step) × (l.step ≤ 2 * length l.counts)

abbrev pub decreases-steps : goal.decreases-steps
decreases-steps l = l.high
