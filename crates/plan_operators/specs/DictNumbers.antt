-- Rows with the number of a dictionary, made of what all dictionaries match.
use Rattle.std.specs.Prelude.{ℕ, pos, List, [], ◌∷◌, ◌++◌, map, length, slice_get}
use Rattle.std.specs.List.{flat_map, range_with_len}
use Rattle.span_token.specs.Extents.{Extent}
use Rattle.row_values.specs.Datums.{Datum, int, span}
use Rattle.dict_match.specs.Rows.{extents_for}
use Rattle.scalar_ops.specs.Extractions.{of_some}
use Rattle.aql_typed.specs.Meaning.{Rows}

-- the row, followed by a dictionary's number and a span
abbrev pub with_number : List Datum → ℕ → Extent → List Datum
with_number row number e = row ++ int (pos number) ∷ span e ∷ []

-- one row for each match of the dictionary with a number
abbrev pub numbered_at : List Datum → List (ℕ × Extent) → List ℕ → ℕ → Rows
numbered_at row found dicts number = of_some (λ d. map (with_number row number) (extents_for d found)) (slice_get dicts number)

-- those of all numbers
abbrev pub numbered_rows : List Datum → List (ℕ × Extent) → List ℕ → Rows
numbered_rows row found dicts = flat_map (numbered_at row found dicts) (range_with_len 0 (length dicts))
