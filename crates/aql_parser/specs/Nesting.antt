-- How deep the parentheses of a program nest.
use Rattle.std.specs.Prelude.{ℕ, ◌+◌, ◌≤◌, ◌==◌, Bool, false, List, take, count_by, All}
use Rattle.std.specs.Str.{byte}
use Prim.Native.String.{String}
use Rattle.aql_lexer.specs.Kinds.{Kind}
use Rattle.aql_lexer.specs.Kinds as k
use Rattle.aql_syntax.specs.Programs.{runs_of}

abbrev pub is_sign : String → Kind → Bool
is_sign s (k.symbol c) = c == byte s
is_sign s kind = false

abbrev pub opens : List Kind → ℕ
opens kinds = count_by (is_sign "(") kinds

abbrev pub closes : List Kind → ℕ
closes kinds = count_by (is_sign ")") kinds

-- how deep the parentheses of a statement may nest
abbrev pub nesting_limit : ℕ
nesting_limit = 64

-- after each of the tokens, there are at most so many more `(` than `)` before it
abbrev pub IsWithin : ℕ → List Kind → Type 0
IsWithin depth kinds = (i : ℕ) → opens (take i kinds) ≤ depth + closes (take i kinds)

-- the nesting of a program: the least depth within which each of its statements is
pub record IsNesting (kinds : List Kind) (depth : ℕ) : Type 0 where
  pub within : All (IsWithin depth) (runs_of kinds)
  pub least : (other : ℕ) → All (IsWithin other) (runs_of kinds) → depth ≤ other

-- no statement of the program nests deeper than `limit`
abbrev pub NestsWithin : ℕ → List Kind → Type 0
NestsWithin limit kinds = (depth : ℕ) × IsNesting kinds depth × (depth ≤ limit)
