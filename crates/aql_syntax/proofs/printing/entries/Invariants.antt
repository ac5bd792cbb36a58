use Rattle.std.proofs.Common.{◌≡◌, ◌++◌, drop}
use Rattle.aql_syntax.specs.Printed.{comma, printed_from, printed_text}
use Rattle.aql_syntax.proofs.printing.entries.Given as goal

abbrev pub invariant-loop-i : goal.invariant-loop-i
invariant-loop-i l =
    l.out ++ printed_from l.i comma printed_text (drop l.i l.entries) ≡ l.initial.out ++ printed_from 0 comma printed_text l.entries
