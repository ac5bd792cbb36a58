-- Rows with their numbers, and the order of rows in which equal rows keep their order.
use Rattle.std.specs.Prelude.{ℕ, ◌+◌, List, [], ◌∷◌}
use Rattle.std.specs.Ordering.{nat_cmp, ordering_then}
use Rattle.std.specs.declared.cmp.Ordering.{Ordering}
use Rattle.aql_base.specs.Sorting.{sorted_by}
use Rattle.row_values.specs.Datums.{Datum}
use Rattle.row_values.specs.Rows.{row_cmp}

-- each row with its number; the first has number i
unfoldable pub numbered_from : ℕ → List (List Datum) → List (List Datum × ℕ)
numbered_from i [] = []
numbered_from i (row ∷ rows) = (row, i) ∷ numbered_from (i + 1) rows

-- by row, and then by number
abbrev pub numbered_cmp : (List Datum × ℕ) → (List Datum × ℕ) → Ordering
numbered_cmp p q = ordering_then (row_cmp p.0 q.0) (nat_cmp p.1 q.1)

-- the rows with their numbers, in row order
abbrev pub row_order_of : List (List Datum) → List (List Datum × ℕ)
row_order_of rows = sorted_by numbered_cmp (numbered_from 0 rows)
