-- What sources mean, with their widths, where the views below are lists of rows.
use Rattle.std.specs.Prelude.{◌≡◌, List, [], ◌∷◌}
use Rattle.span_token.specs.Documents.{Doc}
use Rattle.row_values.specs.Datums.{Datum}
use Rattle.row_values.specs.Rows.{RowList, product}
use Rattle.scalar_ops.specs.Tables.{Lists}
use Rattle.aql_typed.specs.Trees.{Source, document, view, nested}
use Rattle.aql_typed.specs.Fitting.{source_width}
use Rattle.aql_typed.specs.Meaning.{source_rows}
use Rattle.aql_meaning.specs.RowLists.{rows_in, widths_in}

-- one row of each list, side by side
abbrev pub products : List (List (List Datum)) → List (List Datum)
products [] = [] ∷ []
products (rows ∷ lists) = product rows (products lists)

module _ (lists : Lists) (doc : Doc) (below : List RowList) where
  -- a source's rows and their width
  abbrev pub source_list : Source → RowList
  source_list s = record { width = source_width (widths_in below) s; rows = source_rows lists doc (rows_in below) s }

  -- the rows that are made for a source: none for a view, which is lent
  abbrev pub IsOwnOf : Source → RowList → Type 0
  IsOwnOf document own = own ≡ source_list document
  IsOwnOf (view n) own = Unit {0}
  IsOwnOf (nested query) own = own ≡ source_list (nested query)
