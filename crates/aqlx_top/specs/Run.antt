-- What a program means on a document.
use Rattle.std.specs.Prelude.{ℕ, List, map, Option}
use Rattle.span_token.specs.Documents.{Doc}
use Rattle.row_values.specs.Datums.{Datum}
use Rattle.row_values.specs.Outputs.{OutputNames}
use Rattle.scalar_ops.specs.Tables.{Lists}
use Rattle.corpus_json.specs.Outputs.{output_line}
use Rattle.aql_typed.specs.declared.tree.TypedView.{TypedView}
use Rattle.aql_typed.specs.declared.tree.Output.{Output}
use Rattle.aql_typed.specs.Trees.{Query}
use Rattle.aql_typed.specs.Views.{body_of}
use Rattle.aql_typed.specs.Programs.{names_of}
use Rattle.aql_typed.specs.Meaning.{output_rows}

-- a program: its outputs with their columns, the view that each of them shows, or the document, the bodies of its views,
-- and its patterns and dictionaries
pub record Program : Type 0 where
  pub outputs : List OutputNames
  pub shown : List (Option ℕ)
  pub bodies : List Query
  pub lists : Lists

-- a typed program: its views, its patterns and dictionaries, its outputs
abbrev pub Typed : Type 0
Typed = List TypedView × (Lists × List Output)

-- the outputs of a typed program with their columns
abbrev pub outputs_of : Typed → List OutputNames
outputs_of typed = map (names_of typed.0) typed.1.1

abbrev pub program_of : Typed → Program
program_of typed = record {
  outputs = outputs_of typed;
  shown = map (λ out. out.view) typed.1.1;
  bodies = map body_of typed.0;
  lists = typed.1.0;
}

-- the rows of each output on a document
abbrev pub rows_for : Program → Doc → List (List (List Datum))
rows_for program document = map (output_rows program.lists document program.bodies) program.shown

-- the line that a program means on a document
abbrev pub line_of : Program → Doc → List ℕ
line_of program document = output_line document program.outputs (rows_for program document)
