-- What is written for a document: one line of JSON.
use Rattle.std.specs.Prelude.{ℕ, List, [], ◌∷◌, ◌++◌, codes, map, fold, Option, None, Some}
use Rattle.std.specs.List.{zip}
use Rattle.serde_json.specs.Data.{Data, null, boolean, number, string, array, object, unsigned, Members, no_members, member, put}
use Rattle.serde_json.specs.Find.{of_integer}
use Rattle.serde_json.specs.View.{items_of}
use Rattle.serde_json.specs.Written.{compact_text}
use Rattle.span_token.specs.Extents.{Extent}
use Rattle.span_token.specs.Documents.{Doc, text_in}
use Rattle.row_values.specs.Datums.{Datum, int, truth, text, span}
use Rattle.row_values.specs.Datums as datum
use Rattle.row_values.specs.Outputs.{OutputNames}
use Rattle.row_values.specs.Rows.{RowList, sorted}
use denote.Ref.{Bor}

-- the object that has the pairs as its members: serde_json's, put in one after another, so in the order of their names' bytes
abbrev pub put_pair : Members → List ℕ × Data → Members
put_pair members pair = put pair.0 pair.1 members

abbrev pub object_of : List (List ℕ × Data) → Data
object_of pairs = object (fold put_pair no_members pairs)

-- the array of the values
abbrev pub array_of : List Data → Data
array_of values = array (items_of values)

-- a span of a document: its ends, in characters from 0, and its text
abbrev pub span_data : Doc → Extent → Data
span_data document extent =
    object (member (codes "begin") (number (unsigned extent.begin)) (member (codes "end") (number (unsigned extent.end)) (member (codes "text") (string (text_in document extent)) no_members)))

-- a value of a row
abbrev pub value_data : Doc → Datum → Data
value_data document datum.null = null
value_data document (int n) = number (of_integer n)
value_data document (truth b) = boolean b
value_data document (text t) = string t
value_data document (span extent) = span_data document extent

-- a row: an object from the columns' names to the row's values
unfoldable pub row_data : Doc → List (List ℕ) → List Datum → Data
row_data document columns row = object_of (zip columns (map (value_data document) row))

-- an output's rows, in row order
unfoldable pub rows_data : Doc → OutputNames → List (List Datum) → Data
rows_data document output rows = array_of (map (row_data document output.columns) (sorted rows))

-- the outputs' rows, each list under its output's name
unfoldable pub views_data : Doc → List OutputNames → List (List (List Datum)) → Data
views_data document outputs rows = object_of (map (λ (output, list). (output.name, rows_data document output list)) (zip outputs rows))

-- the member `label` of a document that has a label
abbrev pub label_pair : Option (List ℕ) → List (List ℕ × Data)
label_pair None = []
label_pair (Some label) = (codes "label", string label) ∷ []

-- the object of the line
unfoldable pub line_data : Doc → List OutputNames → List (List (List Datum)) → Data
line_data document outputs rows = object_of (label_pair document.label ++ (codes "views", views_data document outputs rows) ∷ [])

-- the output line of a document, given the rows of each output: serde_json's compact text of the object, and LF
unfoldable pub output_line : Doc → List OutputNames → List (List (List Datum)) → List ℕ
output_line document outputs rows = compact_text (line_data document outputs rows) ++ 10 ∷ []

-- the number of columns of a list of rows
abbrev pub width_of : Bor RowList → ℕ
width_of list = list.now.width

abbrev pub rows_of : Bor RowList → List (List Datum)
rows_of list = list.now.rows
