use Rattle.std.proofs.Common.{List, map, refl}
use Rattle.aql_syntax.specs.declared.tree.Item.{Item}
use Rattle.aql_syntax.specs.Views.{item_of}
use Rattle.clause_types.specs.Items.{select_item, faults_of_items}
use Rattle.clause_types.specs.Knowns.{known_of}
use Rattle.clause_types.specs.Views.{scope_of}
use Rattle.clause_types.specs.FaultLaws.{raised, first_at}
use Rattle.clause_types.proofs.columns.select_items.Goals as goal

pub returns-in_err-one-clause-fault : goal.returns-in_err-one-clause-fault
returns-in_err-one-clause-fault c =
    let said = select_item (known_of c.args.known.now) (scope_of c.args.scope.now) in
    raised c.from_residual.result (faults_of_items (map said (map item_of c.args.items.now))) c.in_err-one.field-0.0 c.from_residual.ensures.1
    (first_at (λ (xs : List Item). faults_of_items (map said (map item_of xs))) (λ x. (said (item_of x)).faults) (λ y ys. refl) c.args.items.now
    c.loop-item.item-index c.item-item.result c.item-item.is c.loop-item-test.true c.loop-item.invariant.1 c.in_err-one.field-0.0 c.in_err-one.ensures.fault)
