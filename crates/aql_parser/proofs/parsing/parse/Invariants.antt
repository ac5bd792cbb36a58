use Rattle.std.proofs.Common.{length, map}
use Rattle.aql_lexer.specs.Kinds.{token_of}
use Rattle.aql_syntax.specs.Views.{statement_of}
use Rattle.aql_parser.proofs.ProgramRules.{HasParsed}
use Rattle.aql_parser.proofs.parsing.parse.Given as goal

abbrev pub invariant-loop-rest : goal.invariant-loop-rest
invariant-loop-rest l = HasParsed (map token_of l.toks) (map token_of l.rest) (map statement_of l.trees.items)

abbrev pub decreases-loop-rest : goal.decreases-loop-rest
decreases-loop-rest l = length l.rest
