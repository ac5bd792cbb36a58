-- What the bytes of a program file hold: a text, its tokens, its statements.
use Rattle.std.specs.Prelude.{◌≡◌, ℕ, ◌≤◌, List, length}
use Rattle.std.specs.Str.{IsUtf8}
use Rattle.aql_lexer.specs.Kinds.{Kind, Token}
use Rattle.aql_lexer.specs.Reading.{IsReading}
use Rattle.aql_syntax.specs.Trees.{Statement}
use Rattle.aql_syntax.specs.Programs.{runs_of, AreTokensOf, placed_in}
use Rattle.aql_parser.specs.Faults.{kinds_in}
use Rattle.aql_parser.specs.Nesting.{NestsWithin, nesting_limit}
use Rattle.aqlx_top.specs.Limits.{program_limit, statement_limit}

-- the bytes are a text, no longer than a program may be, that reads as these tokens
pub record ReadsAs (bytes : List ℕ) (tokens : List Token) : Type 0 where
  pub small : length bytes ≤ program_limit
  pub text : IsUtf8 bytes
  pub reading : IsReading bytes tokens

-- no more statements than a program may have, and in none of them deeper parentheses
pub record IsWithinLimits (kinds : List Kind) : Type 0 where
  pub statements : length (runs_of kinds) ≤ statement_limit
  pub nesting : NestsWithin nesting_limit kinds

-- the bytes are the text of these statements, each with its places
pub record HoldsStatements (bytes : List ℕ) (statements : List Statement) : Type 0 where
  pub tokens : List Token
  pub reads : ReadsAs bytes tokens
  pub within : IsWithinLimits (kinds_in tokens)
  pub trees : AreTokensOf (kinds_in tokens) statements
  pub placed : placed_in (kinds_in tokens) statements ≡ statements
