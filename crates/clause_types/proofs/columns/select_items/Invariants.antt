use Rattle.std.proofs.Common.{◌≡◌, map, take, drop}
use Rattle.aql_syntax.specs.Views.{item_of}
use Rattle.clause_types.specs.Items.{select_item, faults_of_items}
use Rattle.clause_types.specs.Knowns.{known_of}
use Rattle.clause_types.specs.Views.{scope_of, item_seen}
use Rattle.clause_types.proofs.columns.select_items.Given as goal

abbrev pub invariant-loop-item : goal.invariant-loop-item
invariant-loop-item l =
    (map item_seen l.checked.items ≡ map (select_item (known_of l.known) (scope_of l.scope)) (map item_of (take l.item-index l.items)))
    × (faults_of_items (map (select_item (known_of l.known) (scope_of l.scope)) (map item_of (drop l.item-index l.items)))
    ≡ faults_of_items (map (select_item (known_of l.known) (scope_of l.scope)) (map item_of l.items)))
