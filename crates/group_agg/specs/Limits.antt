-- The first rows by some columns.
use Rattle.std.specs.Prelude.{ℕ, ◌≡◌, false, List, ◌++◌, Option, Some, None, length, min, take, All}
use Rattle.std.specs.Ordering.{is_lt, ordering_then}
use Rattle.std.specs.declared.cmp.Ordering.{Ordering}
use Rattle.aql_base.specs.Bags.{SameBag}
use Rattle.aql_base.specs.Sorting.{sorted_by}
use Rattle.row_values.specs.Datums.{Datum}
use Rattle.row_values.specs.Rows.{RowList, row_cmp}
use Rattle.group_agg.specs.Groups.{key_of}

-- by the values in the key columns from the left, and then in row order
abbrev pub keyed_cmp : List ℕ → List Datum → List Datum → Ordering
keyed_cmp keys a b = ordering_then (row_cmp (key_of keys a) (key_of keys b)) (row_cmp a b)

-- how many of n rows stay
abbrev pub number_kept : Option ℕ → ℕ → ℕ
number_kept None n = n
number_kept (Some limit) n = min limit n

-- out has as many of the rows as the limit allows, and none of the rest comes before one of them
pub record IsLimited (keys : List ℕ) (limit : Option ℕ) (rows out : RowList) : Type 0 where
  pub rest : List (List Datum)
  pub parts : SameBag (out.rows ++ rest) rows.rows
  pub number : length out.rows ≡ number_kept limit (length rows.rows)
  pub first : All (λ kept. All (λ other. is_lt (keyed_cmp keys other kept) ≡ false) rest) out.rows
  pub width_is : out.width ≡ rows.width

-- the rows that a limit leaves, in that order
unfoldable pub limited : List ℕ → Option ℕ → List (List Datum) → List (List Datum)
limited keys limit rows = take (number_kept limit (length rows)) (sorted_by (keyed_cmp keys) rows)
