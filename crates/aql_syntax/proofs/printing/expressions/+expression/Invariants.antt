use Rattle.std.proofs.Common.{◌≡◌, ◌++◌, map, drop}
use Rattle.aql_syntax.specs.Views.{term_of}
use Rattle.aql_syntax.specs.Printed.{comma, printed_from, printed_term}
use Rattle.aql_syntax.proofs.printing.expressions.+expression.Given as goal

abbrev pub invariant-call-loop-i : goal.invariant-call-loop-i
invariant-call-loop-i l =
    l.out ++ printed_from l.i comma printed_term (map term_of (drop l.i l.args)) ≡ l.initial.out ++ printed_from 0 comma printed_term (map term_of l.args)
