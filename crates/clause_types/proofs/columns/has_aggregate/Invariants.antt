use Rattle.std.proofs.Common.{◌≡◌, map, drop}
use Rattle.clause_types.specs.Selections.{has_aggregate}
use Rattle.clause_types.specs.Views.{item_seen}
use Rattle.clause_types.proofs.columns.has_aggregate.Given as goal

abbrev pub invariant-loop-item : goal.invariant-loop-item
invariant-loop-item l = has_aggregate (map item_seen (drop l.item-index l.items)) ≡ has_aggregate (map item_seen l.items)
