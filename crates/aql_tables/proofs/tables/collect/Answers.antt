use Rattle.std.proofs.Common.{◌≡◌, sym, subst, map}
use Rattle.std.proofs.lemmas.Result.{IfOk-weaker}
use Rattle.aql_syntax.specs.Views.{statement_of}
use Rattle.aql_tables.specs.Programs.{collected, ListsMentions}
use Rattle.aql_tables.proofs.Listing.{lists_mentions}
use Rattle.aql_tables.proofs.tables.collect.Goals as goal

pub returns-clause-listed : goal.returns-clause-listed
returns-clause-listed c =
    let program = map statement_of c.args.graph.now.0 in
    IfOk-weaker c.tables_of.result (λ tables. tables ≡ collected program) (ListsMentions program)
    (λ tables is. subst (ListsMentions program) (sym is) (lists_mentions program)) c.tables_of.ensures
