use Rattle.std.proofs.Common.{◌≤◌, ◌<◌, ◌-◌, length, get_or}
use Rattle.span_token.proofs.places.block_between.Given as goal

abbrev pub invariant-halves : goal.invariant-halves
invariant-halves l = (l.low < l.high) × (l.high ≤ length l.counts) × (get_or l.counts l.low 0 ≤ l.place)

abbrev pub decreases-halves : goal.decreases-halves
decreases-halves l = l.high - l.low
