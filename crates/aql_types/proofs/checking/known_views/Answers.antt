use Rattle.aql_types.proofs.checking.known_views.Goals as goal

pub returns-clause-outputs : goal.returns-clause-outputs
returns-clause-outputs c = c.order.ensures.resolved.outputs
