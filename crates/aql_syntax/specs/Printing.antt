-- What `print` asks and gives.
use Rattle.std.specs.Prelude.{ℕ, List, [], All}
use Rattle.aql_lexer.specs.Kinds.{Kind}
use Rattle.aql_lexer.specs.Tokens.{IsToken}
use Rattle.aql_syntax.specs.Spellings.{free, plain}
use Rattle.aql_syntax.specs.Grammar.Statements.{IsStatement}
use Rattle.aql_syntax.specs.Trees.{Statement}

-- some bytes of a text are a token of this kind
abbrev pub CanStand : Kind → Type 0
CanStand kind = (bytes after : List ℕ) × IsToken kind bytes after

-- the statement has a list of tokens that can stand in a program
pub record CanBePrinted (statement : Statement) : Type 0 where
  pub kinds : List Kind
  pub tokens : IsStatement free statement kinds []
  pub standing : All CanStand kinds

-- the kinds are tokens of the statement, with keywords in lower case and quotes only where they must be
pub record IsPrinted (statement : Statement) (kinds : List Kind) : Type 0 where
  pub tokens : IsStatement free statement kinds []
  pub plainly : IsStatement plain statement kinds []
  pub standing : All CanStand kinds
