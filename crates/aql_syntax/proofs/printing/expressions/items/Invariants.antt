use Rattle.std.proofs.Common.{◌≡◌, ◌++◌, map, drop}
use Rattle.aql_syntax.specs.Views.{item_of}
use Rattle.aql_syntax.specs.Printed.{comma, printed_from, printed_item}
use Rattle.aql_syntax.proofs.printing.expressions.items.Given as goal

abbrev pub invariant-loop-i : goal.invariant-loop-i
invariant-loop-i l =
    l.out ++ printed_from l.i comma printed_item (map item_of (drop l.i l.items)) ≡ l.initial.out ++ printed_from 0 comma printed_item (map item_of l.items)
