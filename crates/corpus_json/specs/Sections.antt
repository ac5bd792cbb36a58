-- The outputs as they stand in a line. Only private clauses cite this.
use Rattle.std.specs.Prelude.{◌≡◌, ◌<◌, ℕ, List, [], All, length, map, slice_index_or}
use Rattle.row_values.specs.Outputs.{OutputNames}
use Rattle.corpus_json.specs.NameIndexes.{NameIndex, name_indexes}
use Rattle.corpus_json.specs.declared.write.member.Column.{Column}
use Rattle.corpus_json.specs.declared.write.member.Member.{Member}

-- an output in a line: its name, its index among the outputs, and its names
pub record Section : Type 0 where
  pub name : List ℕ
  pub index : ℕ
  pub output : OutputNames

abbrev pub section_of : Member → Section
section_of member = record { name = member.key.name.now; index = member.index; output = member.output.now }

abbrev pub output_at : List OutputNames → ℕ → OutputNames
output_at outputs index = slice_index_or outputs index (record { name = []; columns = [] })

abbrev pub section_at : List OutputNames → NameIndex → Section
section_at outputs index = record { name = index.0; index = index.1; output = output_at outputs index.1 }

abbrev pub output_names : List OutputNames → List (List ℕ)
output_names outputs = map (λ output. output.name) outputs

-- the outputs by their names
unfoldable pub sections_of : List OutputNames → List Section
sections_of outputs = map (section_at outputs) (name_indexes (output_names outputs))

-- each column is one of so many
abbrev pub HasColumns : List Column → ℕ → Type 0
HasColumns columns width = All (λ column. column.index < width) columns

-- there is a list of rows at the output's index, and its width is the number of the output's columns
pub record HasRows (widths : List ℕ) (member : Member) : Type 0 where
  pub index : member.index < length widths
  pub width : slice_index_or widths member.index 0 ≡ length member.output.now.columns
