use Rattle.std.proofs.Common.{map, take}
use Rattle.std.specs.List.{AllZip}
use Rattle.aql_syntax.specs.Views.{statement_of}
use Rattle.view_graph.specs.Uses.{CreatesView}
use Rattle.view_graph.proofs.cycle.names_of.Given as goal

abbrev pub invariant-loop-view : goal.invariant-loop-view
invariant-loop-view l = AllZip (CreatesView (map statement_of l.statements)) (take l.view-index l.cycle) l.views
