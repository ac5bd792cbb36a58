use Rattle.std.proofs.Common.{map}
use Rattle.aql_syntax.specs.Views.{statement_of}
use Rattle.view_graph.proofs.Deciding.{decided}
use Rattle.view_graph.proofs.graph.resolve.Goals as goal

pub returns-clause-decided : goal.returns-clause-decided
returns-clause-decided c = decided (map statement_of c.args.statements.items)
