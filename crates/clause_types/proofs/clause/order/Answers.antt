use Rattle.std.proofs.Common.{map}
use Rattle.aql_syntax.specs.Views.{term_of, item_of}
use Rattle.clause_types.specs.Clauses.{order_faults, orders_faults}
use Rattle.clause_types.specs.Knowns.{known_of}
use Rattle.clause_types.specs.Views.{scope_of}
use Rattle.clause_types.specs.FaultLaws.{raised, first_in_loop}
use Rattle.clause_types.proofs.clause.order.Goals as goal

pub returns-in_err-number-clause-fault : goal.returns-in_err-number-clause-fault
returns-in_err-number-clause-fault c =
    let known = known_of c.args.known.now in
    let scope = scope_of c.args.scope.now in
    let items = map item_of c.args.items.now in
    raised c.from_residual.result (orders_faults known scope items (map term_of c.args.keys.now)) c.in_err-number.field-0.0 c.from_residual.ensures.1
    (first_in_loop (order_faults known scope items) term_of c.args.keys.now c.loop-key.key-index c.key-item.result c.key-item.is c.loop-key-test.true
    c.loop-key.invariant.1 c.in_err-number.field-0.0 c.in_err-number.ensures.fault)
