use Rattle.aql_syntax.specs.Views.{item_of}
use Rattle.aql_parser.specs.Readers.{symbol}
use Rattle.aql_parser.specs.Reading.Expressions.{read_item}
use Rattle.aql_parser.proofs.Followed.{given_after}
use Rattle.aql_parser.proofs.queries.item_before.Goals as goal

pub returns : goal.returns
returns c =
    given_after item_of c.in_ok-one.one (read_item c.args.depth) (symbol ",") _ _ _ _ c.expect_after.result _ c.in_ok-one.ensures c.expect_after.ensures
