use Rattle.std.proofs.Common.{map, take}
use Rattle.aql_syntax.specs.Views.{statement_of}
use Rattle.view_graph.specs.Indexes.{entry_of, IndexesNames}
use Rattle.view_graph.proofs.index.define.Given as goal

abbrev pub invariant-loop-index : goal.invariant-loop-index
invariant-loop-index l = IndexesNames (map statement_of (take l.index l.statements)) (entry_of l.names.views) (entry_of l.names.dictionaries)
