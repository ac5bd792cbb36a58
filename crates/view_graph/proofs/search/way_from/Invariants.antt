use Rattle.std.proofs.Common.{◌≡◌, map, take}
use Rattle.view_graph.proofs.search.way_from.Given as goal

abbrev pub invariant-loop-frame : goal.invariant-loop-frame
invariant-loop-frame l = l.views.items ≡ map (λ f. f.view) (take l.frame-index l.frame-items)
