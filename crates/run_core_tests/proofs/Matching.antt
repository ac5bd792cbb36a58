-- The rows that a search puts into a list without a row.
use Rattle.std.proofs.Common.{◌≡◌, ◌∙◌, List, [], ◌∷◌, ◌++◌, map, ap}
use Rattle.span_token.specs.Documents.{Doc as Document}
use Rattle.row_values.specs.Datums.{Datum}
use Rattle.row_values.specs.Rows.{RowList}
use Rattle.scalar_ops.specs.Tables.{Lists}
use Rattle.aql_typed.specs.Meaning.{group_value, found_in}
use Rattle.aql_typed.specs.Trees.{regex}
use Rattle.run_core_tests.specs.Matched.{document_row, match_list}

-- a list with the matches in a row behind its own
abbrev pub with_matches : Lists → Document → List Datum → RowList → RowList
with_matches lists doc row list =
    record { width = list.width; rows = list.rows ++ map (λ groups. row ++ map group_value groups) (found_in lists doc (regex 0 0 (0 ∷ [])) row) }

pub matches-are : (lists : Lists) (doc : Document) (row : List Datum) (start list : RowList) → start ≡ record { width = 2; rows = [] } → row ≡ document_row doc
    → list ≡ with_matches lists doc row start → list ≡ match_list lists doc
matches-are lists doc row start list start_is row_is is = is ∙ (ap (with_matches lists doc row) start_is ∙ ap (λ (r : List Datum). with_matches lists doc r (record { width = 2; rows = [] })) row_is)
