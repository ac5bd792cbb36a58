-- What is written for a document, by a plan.
use Rattle.std.specs.Prelude.{ℕ, List, map}
use Rattle.std.specs.List.{AllZip}
use Rattle.aql_base.specs.Bags.{SameBag}
use Rattle.span_token.specs.Documents.{Doc}
use Rattle.row_values.specs.Datums.{Datum}
use Rattle.row_values.specs.Outputs.{OutputNames}
use Rattle.corpus_json.specs.Outputs.{output_line}
use Rattle.algebra.specs.Plans.{Parts}
use Rattle.algebra.specs.Values.{val}

-- for each output of a plan the rows that a document is answered with
abbrev pub Meaning : Type 0
Meaning = Parts → Doc → List (List (List Datum))

-- lists that are the same bags, one by one
abbrev pub AreSameBags : List (List (List Datum)) → List (List (List Datum)) → Type 0
AreSameBags xs ys = AllZip SameBag xs ys

-- the outputs with their columns
abbrev pub names_in : Parts → List OutputNames
names_in plan = map (λ out. out.names) plan.outputs

-- what the outputs are worth on a document
abbrev pub rows_by : Meaning
rows_by plan document = map (λ out. val plan.lists document plan.nodes out.node) plan.outputs

-- the line of a document that is answered so
abbrev pub line_from : Meaning → Parts → Doc → List ℕ
line_from meant plan document = output_line document (names_in plan) (meant plan document)

-- the line of a document by what the outputs are worth
abbrev pub line_by : Parts → Doc → List ℕ
line_by plan document = output_line document (names_in plan) (rows_by plan document)
