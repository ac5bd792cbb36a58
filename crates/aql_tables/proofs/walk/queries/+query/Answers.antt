use Rattle.std.proofs.Common.{◌≡◌, ◌++◌, OnOk, List, subst}
use Rattle.aql_tables.specs.Mentions.{Mention}
use Rattle.aql_tables.proofs.MentionsViews.{mentions_in_query-select, mentions_in_query-union}
use Rattle.aql_tables.proofs.walk.queries.+query.Goals as goal

pub query-returns-in-Select : goal.query-returns-in-Select
query-returns-in-Select t c =
    subst (λ (ms : List Mention). OnOk c.select.result (c.select.new.out ≡ c.args.out.now ++ ms))
    (mentions_in_query-select c.args.query.now c.in-Select.query c.in-Select.is)
    c.select.ensures

pub query-returns-in-Union : goal.query-returns-in-Union
query-returns-in-Union t c =
    subst (λ (ms : List Mention). OnOk c.union.result (c.union.new.out ≡ c.args.out.now ++ ms))
    (mentions_in_query-union c.args.query.now c.in-Union.sides c.deref.result.now c.in-Union.is c.deref.ensures.value)
    c.union.ensures
