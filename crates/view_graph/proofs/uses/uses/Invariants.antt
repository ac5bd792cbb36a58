use Rattle.std.proofs.Common.{map}
use Rattle.aql_syntax.specs.Views.{statement_of}
use Rattle.view_graph.specs.Lookups.{IsUseGraph}
use Rattle.view_graph.proofs.uses.uses.Given as goal

abbrev pub invariant-loop-index : goal.invariant-loop-index
invariant-loop-index l = IsUseGraph (map statement_of l.statements) l.index l.uses.items
