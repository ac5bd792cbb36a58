use Rattle.std.proofs.Common.{◌∙◌, List, map, ap, ap₂, sym, subst}
use Rattle.scalar_ops.specs.Tables.{Lists}
use Rattle.aql_syntax.specs.declared.tree.Statement.{Statement}
use Rattle.aql_syntax.specs.Views.{statement_of}
use Rattle.aql_tables.specs.Programs.{Collected, lists_of}
use Rattle.aql_typed.specs.declared.tree.Output.{Output}
use Rattle.aql_typed.specs.declared.tree.TypedView.{TypedView}
use Rattle.clause_types.specs.Known.{known_of_program}
use Rattle.aql_types.specs.Programs.{view_seen, outputs_of_program, IsTyped}
use Rattle.aql_types.specs.Queries.{View}
use Rattle.aql_types.proofs.FitsPrograms.{typed_views, typed_outputs}
use Rattle.aql_types.proofs.checking.check.Goals as goal

pub new-requires-clause-views : goal.new-requires-clause-views
new-requires-clause-views c =
    let program = map statement_of c.args.graph.now.0 in
    typed_views (known_of_program program) program c.args.graph.now.1 c.in_ok-views.ensures.none c.in_ok-views.views.items c.in_ok-views.ensures.ok

pub new-requires-clause-outputs : goal.new-requires-clause-outputs
new-requires-clause-outputs c =
    let program = map statement_of c.args.graph.now.0 in
    let is = c.in_ok-outputs.ensures
    ∙ (ap₂ (λ (vs : List TypedView) (ss : List Statement). outputs_of_program (map view_seen vs) (map statement_of ss)) c.deref.ensures.value c.statements.ensures.same
    ∙ ap (λ (vs : List View). outputs_of_program vs program) c.in_ok-views.ensures.ok) in
    typed_outputs (known_of_program program) program c.args.graph.now.1 c.in_ok-views.ensures.none c.in_ok-views.views.items c.in_ok-views.ensures.ok
    c.known_views.ensures.outputs c.in_ok-outputs.outputs.items is

pub returns-clause-typed : goal.returns-clause-typed
returns-clause-typed c =
    let program = map statement_of c.args.graph.now.0 in
    let is = c.in_ok-outputs.ensures
    ∙ (ap₂ (λ (vs : List TypedView) (ss : List Statement). outputs_of_program (map view_seen vs) (map statement_of ss)) c.deref.ensures.value c.statements.ensures.same
    ∙ ap (λ (vs : List View). outputs_of_program vs program) c.in_ok-views.ensures.ok) in
    let lists = c.in_ok-tables-2.ensures ∙ ap (λ (t : Collected). t.lists) c.in_ok-tables.ensures.tables in
    subst (λ (typed : List TypedView × (Lists × List Output)). IsTyped (known_of_program program) (lists_of program) program c.args.graph.now.1 typed) (sym c.new.ensures)
    (record { faultless = c.in_ok-views.ensures.none; views = c.in_ok-views.ensures.ok; lists_are = lists; outputs = is })
