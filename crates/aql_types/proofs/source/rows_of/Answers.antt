use Rattle.std.proofs.Common.{◌≡◌, ◌∙◌, List, map, ap, subst, IfOk}
use Rattle.aql_syntax.specs.Views.{item_of, clauses_of}
use Rattle.aql_typed.specs.Views.{select_clauses_of}
use Rattle.clause_types.specs.declared.scope.Visible as declared
use Rattle.clause_types.specs.Knowns.{known_of}
use Rattle.clause_types.specs.Scopes.{Visible, row_over}
use Rattle.clause_types.specs.Selections.{rows_clauses}
use Rattle.clause_types.specs.Views.{visible_of}
use Rattle.aql_types.proofs.source.rows_of.Goals as goal

pub returns-clause-ok : goal.returns-clause-ok
returns-clause-ok c =
    subst (λ (vs : List Visible). IfOk c.rows_over.result (λ rows. select_clauses_of rows.clauses
    ≡ rows_clauses (known_of c.args.known.now) (row_over vs) (map item_of c.args.query.now.items.items) (clauses_of c.args.query.now)))
    (ap (λ (xs : List declared.Visible). map visible_of xs) c.deref.ensures.value ∙ c.in_ok-visible.ensures) c.rows_over.ensures.ok
