use Rattle.std.proofs.Common.{◌≡◌, ◌++◌, map, drop}
use Rattle.aql_syntax.specs.Views.{group_of}
use Rattle.aql_syntax.specs.Printed.{and, printed_from, printed_numbered}
use Rattle.aql_syntax.proofs.printing.extractions.groups.Given as goal

abbrev pub invariant-loop-i : goal.invariant-loop-i
invariant-loop-i l =
    l.out ++ printed_from l.i and printed_numbered (map group_of (drop l.i l.groups)) ≡ l.initial.out ++ printed_from 0 and printed_numbered (map group_of l.groups)
