use Rattle.std.proofs.Common.{◌≡◌, map, take}
use Rattle.clause_types.specs.Items.{names_of_items}
use Rattle.clause_types.specs.Views.{item_seen, label_of}
use Rattle.clause_types.proofs.columns.labels.Given as goal

abbrev pub invariant-loop-item : goal.invariant-loop-item
invariant-loop-item l = map label_of l.labels.items ≡ names_of_items (map item_seen (take l.item-index l.items))
