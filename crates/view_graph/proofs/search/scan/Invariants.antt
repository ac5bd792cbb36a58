use Rattle.std.proofs.Common.{◌≡◌, ◌-◌, ◌≤◌, length}
use Rattle.view_graph.specs.Search.{used_in, done, IsScanned}
use Rattle.view_graph.proofs.search.scan.Given as goal

abbrev pub invariant-loop-frame : goal.invariant-loop-frame
invariant-loop-frame l = (l.frame.view ≡ l.fn.first.view) × IsScanned l.uses l.frame × (l.frame.rank ≤ done l.marks)

abbrev pub decreases-loop-frame : goal.decreases-loop-frame
decreases-loop-frame l = length (used_in l.uses l.fn.first.view) - l.frame.next
