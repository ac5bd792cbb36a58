use Rattle.std.proofs.Common.{◌≡◌, ◌+◌, ◌*◌, length}
use Rattle.view_graph.specs.declared.search.Mark.TheVariants.{Unseen}
use Rattle.view_graph.specs.Search.{unseen, mark_at, StaysSeen, IsSearch}
use Rattle.view_graph.proofs.search.descend.Given as goal

abbrev pub invariant-loop-frame : goal.invariant-loop-frame
invariant-loop-frame l = IsSearch l.uses l.marks l.stack.items × StaysSeen l.fn.marks l.marks × (¬ (mark_at l.marks l.view ≡ Unseen))

abbrev pub decreases-loop-frame : goal.decreases-loop-frame
decreases-loop-frame l = 2 * unseen l.marks + length l.stack.items
