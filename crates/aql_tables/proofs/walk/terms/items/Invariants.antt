use Rattle.std.proofs.Common.{◌≡◌, ◌++◌, map, flat_map, drop}
use Rattle.aql_syntax.specs.Views.{item_of}
use Rattle.aql_tables.specs.Mentions.{mentions_in_item}
use Rattle.aql_tables.proofs.walk.terms.items.Given as goal

abbrev pub invariant-loop-one : goal.invariant-loop-one
invariant-loop-one l =
    l.out ++ flat_map mentions_in_item (map item_of (drop l.one-index l.items)) ≡ l.initial.out ++ flat_map mentions_in_item (map item_of l.items)
