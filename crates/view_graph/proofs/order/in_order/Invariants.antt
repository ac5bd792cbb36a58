use Rattle.std.proofs.Common.{◌≡◌, ◌+◌, map, take}
use Rattle.view_graph.proofs.order.in_order.Given as goal

abbrev pub invariant-loop-view : goal.invariant-loop-view
invariant-loop-view l = l.order.items ≡ map (λ view. view.1 + 1) (take l.view-index l.view-items)
