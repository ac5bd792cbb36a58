-- Outputs: what is printed under which name, with which columns.
use Rattle.std.specs.Prelude.{ℕ, List, ◌≢◌, slice_index_or, []}
use Rattle.std.specs.List.{AllPairs}

-- an output's name and the names of its columns, as bytes
pub record OutputNames : Type 0 where
  pub name : List ℕ
  pub columns : List (List ℕ)

-- no two columns have one name
abbrev pub HasDistinctNames : List (List ℕ) → Type 0
HasDistinctNames columns = AllPairs (λ a b. a ≢ b) columns

-- the name of column i
abbrev pub name_of : List (List ℕ) → ℕ → List ℕ
name_of columns i = slice_index_or columns i []
