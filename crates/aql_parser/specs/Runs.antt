-- One statement's tokens at a time, and its tree.
use Rattle.std.specs.Prelude.{◌≡◌, ◌<◌, ◌≤◌, ℕ, Ok, Err, Result, List, ◌∷◌, take, drop, length, ⊤}
use Rattle.span_token.specs.declared.refusal.Failure.{Failure}
use Rattle.span_token.specs.declared.refusal.Failure.TheVariants.{OutOfMemory, Fault}
use Rattle.aql_lexer.specs.Kinds.{Kind}
use Rattle.aql_syntax.specs.declared.tree.Statement.{Statement}
use Rattle.aql_syntax.specs.Places.{placed_statement}
use Rattle.aql_syntax.specs.Views.{statement_of}
use Rattle.aql_syntax.specs.Programs.{HasTokens, runs_of}
use Rattle.aql_parser.specs.Nesting.{IsWithin}
use Rattle.aql_parser.specs.Faults.{MayFollow, HasTree}

-- the first `len` tokens are the first statement's
pub record IsFirstRun (kinds : List Kind) (len : ℕ) : Type 0 where
  pub some : 0 < len
  pub inside : len ≤ length kinds
  pub first : runs_of kinds ≡ take len kinds ∷ runs_of (drop len kinds)

-- the least depth within which the tokens are
pub record IsLeastDepth (kinds : List Kind) (depth : ℕ) : Type 0 where
  pub within : IsWithin depth kinds
  pub least : (other : ℕ) → IsWithin other kinds → depth ≤ other

-- the statement, with `before` others before it, of which `run` is all tokens and the first has the number `at`
pub record IsTree (at : ℕ) (run : List Kind) (before : ℕ) (tree : Statement) : Type 0 where
  pub tokens : HasTokens (statement_of tree) run
  pub follows : MayFollow before (statement_of tree)
  pub placed : placed_statement at (statement_of tree) ≡ statement_of tree

-- the statement, or that these tokens are none's behind so many others; want of memory says nothing of them
abbrev pub IsTreeOf : {F : Type 0} → ℕ → List Kind → ℕ → Result Statement (Failure F) → Type 0
IsTreeOf at run before (Ok tree) = IsTree at run before tree
IsTreeOf at run before (Err OutOfMemory) = ⊤
IsTreeOf at run before (Err (Fault f)) = ¬ (HasTree before run)
