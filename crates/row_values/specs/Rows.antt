-- Rows, lists of rows, and the order of rows.
use Rattle.std.specs.Prelude.{ℕ, nat_lt, Bool, not, Option, List, ◌++◌, map, slice_index_or, All}
use Rattle.std.specs.Cmp.Lexicographic.{slice_cmp}
use Rattle.std.specs.List.{filter, flat_map}
use Rattle.std.specs.List.Sorted.{IsSorted}
use Rattle.std.specs.declared.cmp.Ordering.{Ordering}
use Rattle.aql_base.specs.Bags.{count_of}
use Rattle.aql_base.specs.Sorting.{sorted_by}
use Rattle.span_token.specs.Documents.{Doc}
use Rattle.span_token.specs.Extents.{Extent}
use Rattle.row_values.specs.Datums.{Datum, null, datum_cmp, span_of, IsOfDocument}

-- a list of rows of one width
pub record RowList : Type 0 where
  pub width : ℕ
  pub rows : List (List Datum)

-- the value of a row in a column
abbrev pub value_in : List Datum → ℕ → Datum
value_in row column = slice_index_or row column null

-- the span in a column of a row
abbrev pub span_in : ℕ → List Datum → Option Extent
span_in column row = span_of (value_in row column)

-- the spans of all rows lie in the document
abbrev pub RowsLieIn : Doc → List (List Datum) → Type 0
RowsLieIn document rows = All (All (IsOfDocument document)) rows

-- and those in one column
abbrev pub ColumnLiesIn : Doc → ℕ → List (List Datum) → Type 0
ColumnLiesIn document column rows = All (λ row. IsOfDocument document (value_in row column)) rows

-- rows by their columns from the left; a proper prefix comes first
abbrev pub row_cmp : List Datum → List Datum → Ordering
row_cmp = slice_cmp datum_cmp

-- no row comes before the one in front of it
abbrev pub IsInOrder : List (List Datum) → Type 0
IsInOrder = IsSorted row_cmp

-- the rows in row order: the one list that is in order and the same bag
unfoldable pub sorted : List (List Datum) → List (List Datum)
sorted rows = sorted_by row_cmp rows

-- each left row, followed by each right row
unfoldable pub product : List (List Datum) → List (List Datum) → List (List Datum)
product left right = flat_map (λ l. map (λ r. l ++ r) right) left

-- whether a row is among rows
abbrev pub does_occur : List (List Datum) → List Datum → Bool
does_occur rows row = nat_lt 0 (count_of row_cmp row rows)

-- the left rows, each with all its copies, that occur nowhere on the right
unfoldable pub minus : List (List Datum) → List (List Datum) → List (List Datum)
minus left right = filter (λ row. not (does_occur right row)) left
