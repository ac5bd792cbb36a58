use Rattle.std.proofs.Common.{◌≡◌, map, take, drop}
use Rattle.aql_syntax.specs.Views.{term_of}
use Rattle.clause_types.specs.Expressions.{typing}
use Rattle.clause_types.specs.Knowns.{known_of}
use Rattle.clause_types.specs.Typings.{faults_of}
use Rattle.clause_types.specs.Views.{seen, scope_of}
use Rattle.clause_types.proofs.expression.+term.Given as goal

abbrev pub invariant-terms-loop-ast : goal.invariant-terms-loop-ast
invariant-terms-loop-ast l =
    (map seen l.all.items ≡ map (typing (known_of l.known) (scope_of l.scope)) (map term_of (take l.ast-index l.asts)))
    × (faults_of (map (typing (known_of l.known) (scope_of l.scope)) (map term_of (drop l.ast-index l.asts)))
    ≡ faults_of (map (typing (known_of l.known) (scope_of l.scope)) (map term_of l.asts)))
