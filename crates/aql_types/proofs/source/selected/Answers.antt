use Rattle.aql_typed.specs.Nodes.{select_view}
use Rattle.aql_types.proofs.source.selected.Goals as goal

pub returns-clause-body : goal.returns-clause-body
returns-clause-body c = select_view (record { sources = c.args.sources; clauses = c.args.rows.clauses })
