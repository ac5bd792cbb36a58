-- Rows with their key values, of which the first are kept.
use Rattle.std.specs.Prelude.{ℕ, ◌≡◌, ◌-◌, ◌≤◌, Bool, true, false, List, [], length, take, slice_index_or, All}
use Rattle.std.specs.Ordering.{is_lt, ordering_then}
use Rattle.std.specs.declared.cmp.Ordering.{Ordering}
use Rattle.aql_base.specs.Sorting.{sorted_by}
use Rattle.row_values.specs.Datums.{Datum}
use Rattle.row_values.specs.Rows.{row_cmp}
use Rattle.group_agg.specs.Groups.{key_of}

-- the values of a row in the key columns, and the row
abbrev pub keyed : List ℕ → List Datum → List Datum × List Datum
keyed keys row = (key_of keys row, row)

-- by key values, and then in row order
abbrev pub pair_cmp : (List Datum × List Datum) → (List Datum × List Datum) → Ordering
pair_cmp p q = ordering_then (row_cmp p.0 q.0) (row_cmp p.1 q.1)

-- the first n
abbrev pub first_of : ℕ → List (List Datum × List Datum) → List (List Datum × List Datum)
first_of n pairs = take n (sorted_by pair_cmp pairs)

-- each pair has a value for each key
abbrev pub AreLong : List ℕ → List (List Datum × List Datum) → Type 0
AreLong keys pairs = All (λ p. length p.0 ≡ length keys) pairs

-- among the held are the first n of the seen; once they are settled, what stands at index n - 1 isn't among the first n - 1
pub record IsHeld (keys : List ℕ) (n : ℕ) (seen held : List (List Datum × List Datum)) (settled : Bool) : Type 0 where
  pub firsts : first_of n held ≡ first_of n seen
  pub long : AreLong keys held
  pub enough : settled ≡ true → n ≤ length held
  pub worst : settled ≡ true → is_lt (pair_cmp (slice_index_or held (n - 1) ([], [])) (slice_index_or (sorted_by pair_cmp held) (n - 1) ([], []))) ≡ false
