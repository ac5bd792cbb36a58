use Rattle.std.proofs.Common.{◌≡◌, ◌++◌, map, drop}
use Rattle.aql_syntax.specs.Views.{term_of}
use Rattle.aql_syntax.specs.Printed.{and, printed_from, printed_term}
use Rattle.aql_syntax.proofs.printing.expressions.conds.Given as goal

abbrev pub invariant-loop-i : goal.invariant-loop-i
invariant-loop-i l =
    l.out ++ printed_from l.i and printed_term (map term_of (drop l.i l.conds)) ≡ l.initial.out ++ printed_from 0 and printed_term (map term_of l.conds)
