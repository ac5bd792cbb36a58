-- The rows of an output.
use Rattle.std.specs.Prelude.{ℕ, List, Option, Some, None, slice_index_or}
use Rattle.row_values.specs.Rows.{RowList}

-- the list of an output: that of its view, or that of the document
abbrev pub output_of : List RowList → RowList → Option ℕ → RowList
output_of views document None = document
output_of views document (Some n) = slice_index_or views n document
