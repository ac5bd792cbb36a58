use Rattle.aql_syntax.specs.Nodes.{union_view}
use Rattle.aql_syntax.proofs.tree.Query.of_union.Goals as goal

pub returns : goal.returns
returns c = union_view c.args.sides
