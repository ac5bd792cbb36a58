use Rattle.std.proofs.Common.{◌≡◌, ◌++◌, OnOk, List, subst}
use Rattle.view_graph.specs.Names.{Named}
use Rattle.view_graph.proofs.NamesViews.{names_in_query-select, names_in_query-union}
use Rattle.view_graph.proofs.names.queries.+query.Goals as goal

pub query-returns-in-Select : goal.query-returns-in-Select
query-returns-in-Select t c =
    subst (λ (names : List Named). OnOk c.select.result (c.select.new.out ≡ c.args.out.now ++ names))
    (names_in_query-select c.args.query.now c.in-Select.query c.in-Select.is)
    c.select.ensures

pub query-returns-in-Union : goal.query-returns-in-Union
query-returns-in-Union t c =
    subst (λ (names : List Named). OnOk c.union.result (c.union.new.out ≡ c.args.out.now ++ names))
    (names_in_query-union c.args.query.now c.in-Union.sides c.deref.result.now c.in-Union.is c.deref.ensures.value)
    c.union.ensures
