use Rattle.std.proofs.Common.{◌≡◌, map, drop}
use Rattle.aql_syntax.specs.Views.{item_of}
use Rattle.clause_types.specs.Keys.{item_with_name}
use Rattle.clause_types.proofs.key.item_with_name.Given as goal

abbrev pub invariant-loop-item : goal.invariant-loop-item
invariant-loop-item l = item_with_name l.name (map item_of (drop l.item-index l.items)) ≡ item_with_name l.name (map item_of l.items)
