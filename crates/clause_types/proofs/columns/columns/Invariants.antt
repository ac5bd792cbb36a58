use Rattle.std.proofs.Common.{◌≡◌, map, take}
use Rattle.clause_types.specs.Items.{columns_of_items}
use Rattle.clause_types.specs.Views.{item_seen}
use Rattle.clause_types.proofs.columns.columns.Given as goal

abbrev pub invariant-loop-item : goal.invariant-loop-item
invariant-loop-item l = l.columns.items ≡ columns_of_items (map item_seen (take l.item-index l.items))
