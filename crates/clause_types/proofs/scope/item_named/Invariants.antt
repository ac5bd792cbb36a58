use Rattle.std.proofs.Common.{◌≡◌, map, drop}
use Rattle.clause_types.specs.Scopes.{item_named}
use Rattle.clause_types.specs.Views.{item_seen}
use Rattle.clause_types.proofs.scope.item_named.Given as goal

abbrev pub invariant-loop-item : goal.invariant-loop-item
invariant-loop-item l = item_named l.name (map item_seen (drop l.item-index l.items)) ≡ item_named l.name (map item_seen l.items)
