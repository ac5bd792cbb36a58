use Rattle.std.proofs.Common.{◌≡◌, ◌++◌, map, flat_map, drop}
use Rattle.aql_syntax.specs.Views.{item_of}
use Rattle.view_graph.specs.Names.{names_in_item}
use Rattle.view_graph.proofs.names.terms.items.Given as goal

abbrev pub invariant-loop-item : goal.invariant-loop-item
invariant-loop-item l =
    l.out ++ flat_map names_in_item (map item_of (drop l.item-index l.items)) ≡ l.initial.out ++ flat_map names_in_item (map item_of l.items)
