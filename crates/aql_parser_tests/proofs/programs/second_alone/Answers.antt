use Rattle.std.proofs.Common.{arith}
use Rattle.aql_parser.specs.Nesting.{nesting_limit}
use Rattle.aql_parser_tests.proofs.Nested.{nested_run}
use Rattle.aql_parser_tests.proofs.programs.second_alone.Goals as goal

pub parse_statement-requires-clause-nested : goal.parse_statement-requires-clause-nested
parse_statement-requires-clause-nested c =
    nested_run nesting_limit c.first_run-run.result.nesting c.first_run-run.result.len _ (omega (arith, c.if-run-gt-MAX_NESTING.false)) c.first_run-run.ensures.nesting
