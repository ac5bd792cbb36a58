use Rattle.std.proofs.Common.{◌≡◌, ◌++◌, map, drop}
use Rattle.aql_syntax.specs.Views.{item_of}
use Rattle.aql_syntax.specs.Printed.{printed_each, printed_item_before}
use Rattle.aql_syntax.proofs.printing.expressions.items_before.Given as goal

abbrev pub invariant-loop-one : goal.invariant-loop-one
invariant-loop-one l =
    l.out ++ printed_each printed_item_before (map item_of (drop l.one-index l.items)) ≡ l.initial.out ++ printed_each printed_item_before (map item_of l.items)
