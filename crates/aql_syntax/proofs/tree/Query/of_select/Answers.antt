use Rattle.aql_syntax.specs.Nodes.{select_view}
use Rattle.aql_syntax.proofs.tree.Query.of_select.Goals as goal

pub returns : goal.returns
returns c = select_view c.args.select
