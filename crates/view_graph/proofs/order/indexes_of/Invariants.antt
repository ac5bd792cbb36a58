use Rattle.std.proofs.Common.{◌≡◌, ℕ, ◌<◌, ◌-◌, length, get_or}
use Rattle.view_graph.proofs.order.indexes_of.Given as goal

abbrev pub invariant-loop-index : goal.invariant-loop-index
invariant-loop-index l = (length l.indexes.items ≡ l.count) × ((k : ℕ) → k < l.index → get_or l.indexes.items (get_or l.order k 0 - 1) 0 ≡ k)
