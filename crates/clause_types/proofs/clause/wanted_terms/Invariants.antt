use Rattle.std.proofs.Common.{◌≡◌, map, take, drop}
use Rattle.scalar_ops.specs.Views.{term_of as expr_term}
use Rattle.aql_syntax.specs.Views.{term_of}
use Rattle.clause_types.specs.Clauses.{terms_of, each_faults}
use Rattle.clause_types.specs.Knowns.{known_of}
use Rattle.clause_types.specs.Views.{scope_of}
use Rattle.clause_types.proofs.clause.wanted_terms.Given as goal

abbrev pub invariant-loop-ast : goal.invariant-loop-ast
invariant-loop-ast l =
    (map expr_term l.exprs.items ≡ terms_of (known_of l.known) (scope_of l.scope) (map term_of (take l.ast-index l.asts)))
    × (each_faults (known_of l.known) (scope_of l.scope) l.wanted (map term_of (drop l.ast-index l.asts))
    ≡ each_faults (known_of l.known) (scope_of l.scope) l.wanted (map term_of l.asts))
