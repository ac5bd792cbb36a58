use Rattle.aql_syntax.specs.Views.{query_of}
use Rattle.aql_parser.specs.Readers.{symbol}
use Rattle.aql_parser.specs.Reading.Queries.{read_query}
use Rattle.aql_parser.proofs.Followed.{given_after}
use Rattle.aql_parser.proofs.statements.ended_query.Goals as goal

pub returns : goal.returns
returns c =
    given_after query_of c.in_ok-query.query (read_query c.args.depth) (symbol ";") _ _ _ _ c.expect_after.result _ c.in_ok-query.ensures c.expect_after.ensures
