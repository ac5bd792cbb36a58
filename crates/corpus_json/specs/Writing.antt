-- Pieces of an output line as they are written one after another. Only private clauses cite this.
use Rattle.std.specs.Prelude.{ℕ, List, [], ◌∷◌, ◌++◌, Bool, map, slice_index_or, Option, None, Some, codes, decimal}
use Rattle.json.specs.Print.{quoted}
use Rattle.serde_json.specs.Data.{Data, object, Members, no_members, member}
use Rattle.serde_json.specs.Written.{members_text, items_text}
use Rattle.serde_json.specs.View.{items_of}
use Rattle.span_token.specs.Documents.{Doc}
use Rattle.span_token.specs.Extents.{Extent}
use Rattle.row_values.specs.Datums.{Datum, null}
use Rattle.corpus_json.specs.Outputs.{value_data, rows_data}
use Rattle.corpus_json.specs.NameIndexes.{NameIndex}
use Rattle.corpus_json.specs.Sections.{Section}

-- what stands before the text of a span
abbrev pub span_head : Extent → List ℕ
span_head extent = codes "{\"begin\":" ++ (decimal extent.begin ++ (codes ",\"end\":" ++ (decimal extent.end ++ codes ",\"text\":")))

-- the members as they stand
abbrev pub listed : List (List ℕ × Data) → Members
listed [] = no_members
listed (pair ∷ pairs) = member pair.0 pair.1 (listed pairs)

-- a row's values under the names of their columns, as the columns stand
abbrev pub placed : Doc → List Datum → NameIndex → List ℕ × Data
placed document row (name, index) = (name, value_data document (slice_index_or row index null))

abbrev pub row_members : Doc → List NameIndex → List Datum → Members
row_members document columns row = listed (map (placed document row) columns)

-- their text, with the closing brace; `later` says that a member stands before them
unfoldable pub row_text : Bool → Doc → List NameIndex → List Datum → List ℕ
row_text later document columns row = members_text later (row_members document columns row)

-- the text of the values of an array, with the closing bracket
unfoldable pub array_text : Bool → List Data → List ℕ
array_text later values = items_text later (items_of values)

abbrev pub row_listed : Doc → List NameIndex → List Datum → Data
row_listed document columns row = object (row_members document columns row)

-- an output's rows under its name
abbrev pub section_pair : Doc → List (List (List Datum)) → Section → List ℕ × Data
section_pair document rows section = (section.name, rows_data document section.output (slice_index_or rows section.index []))

abbrev pub views_listed : Doc → List (List (List Datum)) → List Section → Members
views_listed document rows sections = listed (map (section_pair document rows) sections)

-- their text, with the closing brace
unfoldable pub views_text : Bool → Doc → List (List (List Datum)) → List Section → List ℕ
views_text later document rows sections = members_text later (views_listed document rows sections)

-- the opening brace of a line, and the member `label` with the comma behind it, where there is a label
abbrev pub label_text : Option (List ℕ) → List ℕ
label_text None = 123 ∷ []
label_text (Some label) = codes "{\"label\":" ++ (quoted label ++ 44 ∷ [])
