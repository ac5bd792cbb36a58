-- Lists of rows of several widths: the rows of views, by their numbers.
use Rattle.std.specs.Prelude.{ℕ, List, map}
use Rattle.std.specs.List.{All}
use Rattle.span_token.specs.Documents.{Doc}
use Rattle.row_values.specs.Datums.{Datum}
use Rattle.row_values.specs.Rows.{RowList, RowsLieIn}

-- the rows of some lists, and their widths
abbrev pub rows_in : List RowList → List (List (List Datum))
rows_in = map (λ list. list.rows)

abbrev pub widths_in : List RowList → List ℕ
widths_in = map (λ list. list.width)

-- the rows of all lists lie in the document
abbrev pub AllLieIn : Doc → List RowList → Type 0
AllLieIn doc = All (λ list. RowsLieIn doc list.rows)
