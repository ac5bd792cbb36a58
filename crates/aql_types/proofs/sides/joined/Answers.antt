use Rattle.aql_typed.specs.Nodes.{union_view}
use Rattle.aql_types.proofs.sides.joined.Goals as goal

pub returns-clause-body : goal.returns-clause-body
returns-clause-body c = union_view c.args.bodies
