use Rattle.aql_syntax.specs.Nodes.{call_view}
use Rattle.aql_syntax.proofs.tree.Ast.of_call.Goals as goal

pub returns : goal.returns
returns c = call_view c.args.at c.args.name c.args.args
