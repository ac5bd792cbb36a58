-- The line of a document is written alike of lists of rows that are the same bags.
use Rattle.std.proofs.Common.{◌≡◌, ◌++◌, ℕ, List, [], ◌∷◌, map, refl, ap, ap₂}
use Rattle.std.specs.List.{zip}
use Rattle.aql_base.specs.Bags.{SameBag}
use Rattle.span_token.specs.Documents.{Doc}
use Rattle.row_values.specs.Datums.{Datum}
use Rattle.row_values.specs.Outputs.{OutputNames}
use Rattle.row_values.specs.SortedRows.{sorted-SameBag}
use Rattle.corpus_json.specs.Outputs.{array_of, object_of, row_data, rows_data, views_data, label_pair, line_data, output_line}
use Rattle.serde_json.specs.Data.{Data}
use Rattle.serde_json.specs.Written.{compact_text}
use Rattle.std.specs.Prelude.{codes}
use Rattle.run_pool.specs.Lines.{AreSameBags}

-- an output's rows are written alike where they are the same bag
rows_alike : (doc : Doc) (output : OutputNames) (xs ys : List (List Datum)) → SameBag xs ys → rows_data doc output xs ≡ rows_data doc output ys
unfolding rows_data
rows_alike doc output xs ys same = ap (λ (rows : List (List Datum)). array_of (map (row_data doc output.columns) rows)) (sorted-SameBag xs ys same)

-- the name of an output with what is written of its rows
abbrev shown_pair : Doc → OutputNames × List (List Datum) → List ℕ × Data
shown_pair doc (output, list) = (output.name, rows_data doc output list)

pairs_alike : (doc : Doc) (outputs : List OutputNames) (xs ys : List (List (List Datum))) → AreSameBags xs ys
    → map (shown_pair doc) (zip outputs xs) ≡ map (shown_pair doc) (zip outputs ys)
pairs_alike doc [] xs ys same = refl
pairs_alike doc (output ∷ outputs) [] [] same = refl
pairs_alike doc (output ∷ outputs) [] (y ∷ ys) same = absurd same
pairs_alike doc (output ∷ outputs) (x ∷ xs) [] same = absurd same
pairs_alike doc (output ∷ outputs) (x ∷ xs) (y ∷ ys) same =
    ap₂ (λ (first : Data) (rest : List (List ℕ × Data)). (output.name, first) ∷ rest) (rows_alike doc output x y same.0) (pairs_alike doc outputs xs ys same.1)

views_alike : (doc : Doc) (outputs : List OutputNames) (xs ys : List (List (List Datum))) → AreSameBags xs ys → views_data doc outputs xs ≡ views_data doc outputs ys
unfolding views_data
views_alike doc outputs xs ys same = ap object_of (pairs_alike doc outputs xs ys same)

-- so is the line of a document
pub lines_alike : (doc : Doc) (outputs : List OutputNames) (xs ys : List (List (List Datum))) → AreSameBags xs ys → output_line doc outputs xs ≡ output_line doc outputs ys
unfolding output_line line_data
lines_alike doc outputs xs ys same =
    ap (λ (views : Data). compact_text (object_of (label_pair doc.label ++ (codes "views", views) ∷ [])) ++ 10 ∷ []) (views_alike doc outputs xs ys same)
