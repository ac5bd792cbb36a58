use Rattle.std.proofs.Common.{◌≡◌, ◌++◌, map, flat_map, drop}
use Rattle.aql_syntax.specs.Views.{term_of}
use Rattle.aql_tables.specs.Mentions.{mentions_in_term}
use Rattle.aql_tables.proofs.walk.terms.+term.Given as goal

abbrev pub invariant-terms-loop-ast : goal.invariant-terms-loop-ast
invariant-terms-loop-ast l =
    l.out ++ flat_map mentions_in_term (map term_of (drop l.ast-index l.asts)) ≡ l.initial.out ++ flat_map mentions_in_term (map term_of l.asts)
