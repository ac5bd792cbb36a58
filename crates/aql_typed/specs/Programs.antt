-- Typed programs: what names views and outputs may have.
use Rattle.std.specs.Prelude.{ℕ, ◌≡◌, ◌<◌, List, [], ◌∷◌, map, length, All, Option, None, Some, IfSome, slice_index_or, codes}
use Rattle.row_values.specs.Outputs.{HasDistinctNames, OutputNames}
use Rattle.aql_typed.specs.declared.tree.TypedView.{TypedView}
use Rattle.aql_typed.specs.declared.tree.Output.{Output}
use Rattle.aql_typed.specs.Views.{body_of}
use Rattle.aql_typed.specs.Fitting.{AllFit, widths_of}

-- the names of a view's columns, from the left
abbrev pub column_names : TypedView → List (List ℕ)
column_names v = map (λ c. c.name) v.columns.items

-- the views fit, each has a name for each column of its body, and no two columns of one name
pub record AreTypedViews (views : List TypedView) : Type 0 where
  pub fit : AllFit [] (map body_of views)
  pub columns : map (λ v. length (column_names v)) views ≡ widths_of (map body_of views)
  pub distinct : All (λ v. HasDistinctNames (column_names v)) views

-- an output's view is one of so many, or the document
abbrev pub NamesView : ℕ → Output → Type 0
NamesView number out = IfSome out.view (λ n. n < number)

-- each output shows one of so many views, or the document, and no two have one name
pub record AreTypedOutputs (number : ℕ) (outputs : List Output) : Type 0 where
  pub named : All (NamesView number) outputs
  pub distinct : HasDistinctNames (map (λ out. out.name) outputs)

-- the names of the columns of a view; the document has one
abbrev pub columns_shown : List TypedView → Option ℕ → List (List ℕ)
columns_shown views None = codes "text" ∷ []
columns_shown views (Some n) = slice_index_or (map column_names views) n []

-- an output's name with those of its columns
abbrev pub names_of : List TypedView → Output → OutputNames
names_of views out = record { name = out.name; columns = columns_shown views out.view }
