-- Programs: the statements of a list of tokens.
use Rattle.std.specs.Prelude.{ℕ, ◌+◌, Bool, false, ◌==◌, if◌then◌else◌, List, [], ◌∷◌, drop, All, length, ⊤}
use Rattle.std.specs.List.{AllZip}
use Rattle.std.specs.Str.{byte}
use Rattle.aql_lexer.specs.Kinds.{Kind}
use Rattle.aql_lexer.specs.Kinds as k
use Rattle.aql_syntax.specs.Spellings.{free}
use Rattle.aql_syntax.specs.Trees.{Statement, module_}
use Rattle.aql_syntax.specs.Grammar.Statements.{IsStatement}
use Rattle.aql_syntax.specs.Places.{placed_statement}

-- `;`
abbrev pub is_end : Kind → Bool
is_end (k.symbol c) = c == byte ";"
is_end kind = false

-- `kind` put before the tokens of the first run
abbrev pub begun_with : Kind → List (List Kind) → List (List Kind)
begun_with kind [] = (kind ∷ []) ∷ []
begun_with kind (run ∷ runs) = (kind ∷ run) ∷ runs

-- the statements' tokens: the runs up to and with a `;`, and the tokens after the last one, if any
abbrev pub runs_of : List Kind → List (List Kind)
runs_of [] = []
runs_of (kind ∷ kinds) = if is_end kind then (kind ∷ []) ∷ runs_of kinds else begun_with kind (runs_of kinds)

-- `module` begins a program, and stands nowhere else
abbrev pub IsNoModule : Statement → Type 0
IsNoModule (module_ name) = ⊥
IsNoModule statement = ⊤

-- all of `run`, and no more, are tokens of the statement
abbrev pub HasTokens : Statement → List Kind → Type 0
HasTokens statement run = IsStatement free statement run []

-- the tokens are those of these statements
pub record AreTokensOf (kinds : List Kind) (statements : List Statement) : Type 0 where
  pub each : AllZip HasTokens statements (runs_of kinds)
  pub module_first : All IsNoModule (drop 1 statements)

-- the statements with the places that the tokens give them, where the first token has the number n
abbrev pub placed_from : ℕ → List (List Kind) → List Statement → List Statement
placed_from n (run ∷ runs) (statement ∷ statements) =
    placed_statement n statement ∷ placed_from (n + length run) runs statements
placed_from n _ statements = statements

abbrev pub placed_in : List Kind → List Statement → List Statement
placed_in kinds statements = placed_from 0 (runs_of kinds) statements
