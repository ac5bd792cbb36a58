use Rattle.std.proofs.Common.{◌≡◌, ◌∙◌, ◌++◌, ap, map, List}
use Rattle.std.proofs.lemmas.Result.{IfOk-weaker}
use Rattle.aql_syntax.specs.Views.{statement_of, name_of, query_of}
use Rattle.view_graph.specs.Names.{Named, names_in_query}
use Rattle.view_graph.specs.Mentions.{named_of}
use Rattle.view_graph.specs.Lookups.{AreViewsNamed, AreViewsUsed}
use Rattle.view_graph.proofs.LookingUp.{used_by_view}
use Rattle.view_graph.proofs.uses.used_by.Goals as goal

pub returns-in_ok-query-in-View-clause-ok : goal.returns-in_ok-query-in-View-clause-ok
returns-in_ok-query-in-View-clause-ok c = λ program names.
    let written : map named_of c.as_slice.result.now ≡ names_in_query (query_of c.in-View.query) =
    c.as_slice.ensures ∙ (c.in_ok-query-in-View.ensures ∙ ap (λ (before : List Named). before ++ names_in_query (query_of c.in-View.query)) c.new-mentions.ensures) in
    IfOk-weaker c.views_mentioned.result (AreViewsNamed program (map named_of c.as_slice.result.now)) (AreViewsUsed program (statement_of c.args.statement.now))
    (λ views found. used_by_view program (statement_of c.args.statement.now) (name_of c.in-View.name) (query_of c.in-View.query) views (map named_of c.as_slice.result.now)
    (ap statement_of c.in-View.is) written found)
    (c.views_mentioned.ensures.ok program names)
