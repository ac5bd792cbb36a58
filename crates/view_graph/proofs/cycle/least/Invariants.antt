use Rattle.std.proofs.Common.{ℕ, ◌<◌, ◌≤◌, length, get_or}
use Rattle.view_graph.proofs.cycle.least.Given as goal

abbrev pub invariant-loop-i : goal.invariant-loop-i
invariant-loop-i l = (l.at < length l.circle) × ((k : ℕ) → k < l.i → get_or l.circle l.at 0 ≤ get_or l.circle k 0)
