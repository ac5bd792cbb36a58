use Rattle.std.proofs.Common.{◌≡◌, ◌++◌, map, drop}
use Rattle.aql_syntax.specs.Views.{query_of, source_of}
use Rattle.aql_syntax.specs.Printed.{comma, union_all, printed_from, printed_nested, printed_source}
use Rattle.aql_syntax.proofs.printing.queries.+query.Given as goal

abbrev pub invariant-union-loop-i : goal.invariant-union-loop-i
invariant-union-loop-i l =
    l.out ++ printed_from l.i union_all printed_nested (map query_of (drop l.i l.sides)) ≡ l.initial.out ++ printed_from 0 union_all printed_nested (map query_of l.sides)

abbrev pub invariant-sources-loop-i : goal.invariant-sources-loop-i
invariant-sources-loop-i l =
    l.out ++ printed_from l.i comma printed_source (map source_of (drop l.i l.sources)) ≡ l.initial.out ++ printed_from 0 comma printed_source (map source_of l.sources)
