use Rattle.std.proofs.Common.{map, take}
use Rattle.aql_syntax.specs.Views.{statement_of}
use Rattle.view_graph.specs.Indexes.{has}
use Rattle.view_graph.specs.Outputs.{HasSeen}
use Rattle.view_graph.proofs.outputs.distinct_outputs.Given as goal

abbrev pub invariant-loop-index : goal.invariant-loop-index
invariant-loop-index l = HasSeen (map statement_of (take l.index l.statements)) (has l.seen)
