use Rattle.std.proofs.Common.{◌≡◌, ◌++◌, map, flat_map, drop}
use Rattle.aql_syntax.specs.Views.{item_of}
use Rattle.aql_tables.specs.Mentions.{mentions_in_column}
use Rattle.aql_tables.proofs.walk.terms.columns.Given as goal

abbrev pub invariant-loop-item : goal.invariant-loop-item
invariant-loop-item l =
    l.out ++ flat_map mentions_in_column (map item_of (drop l.item-index l.items)) ≡ l.initial.out ++ flat_map mentions_in_column (map item_of l.items)
