-- Where rows lie.
use Rattle.std.proofs.Common.{◌-◌, ℕ, List, Option, Some, None, length}
use Rattle.std.specs.List.{All, filter}
use Rattle.std.proofs.lemmas.List.Elements.{All-map, All-append, All-take, All-drop, All-filter, All-weaker}
use Rattle.std.proofs.Common.{take, drop}
use Rattle.span_token.specs.Documents.{Doc}
use Rattle.row_values.specs.Datums.{Datum, IsOfDocument}
use Rattle.row_values.specs.Rows.{RowsLieIn, sorted}
use Rattle.row_values.specs.RowBags.{RowsLieIn-SameBag}
use Rattle.row_values.specs.SortedRows.{SameBag-sorted}
use Rattle.group_agg.specs.Limits.{limited}
use Rattle.group_agg.specs.Laws.{All-limited}
use Rattle.aql_typed.specs.Meaning.{cut}
use Rattle.algebra.specs.Operators.{part_of, unmarked, is_marked}

-- the first rows lie where the rows do
pub cut-lies : (doc : Doc) (keys : List ℕ) (limit : Option ℕ) (rows : List (List Datum)) → RowsLieIn doc rows → RowsLieIn doc (cut keys limit rows)
cut-lies doc keys None rows lies = lies
cut-lies doc keys (Some n) rows lies =
    RowsLieIn-SameBag doc (limited keys (Some n) rows) (sorted (limited keys (Some n) rows)) (SameBag-sorted (limited keys (Some n) rows))
    (All-limited (All (IsOfDocument doc)) keys (Some n) rows lies)

-- and so do those of a dictionary's number
pub part-lies : (doc : Doc) (number : ℕ) (rows : List (List Datum)) → RowsLieIn doc rows → RowsLieIn doc (part_of number rows)
part-lies doc number rows lies =
    All-map (All (IsOfDocument doc)) unmarked (filter (is_marked number) rows)
    (All-weaker (All (IsOfDocument doc)) (λ row. All (IsOfDocument doc) (unmarked row))
    (λ row here. All-append (IsOfDocument doc) (take (length row - 2) row) (drop (length row - 1) row) (All-take (IsOfDocument doc) (length row - 2) row here) (All-drop (IsOfDocument doc) (length row - 1) row here))
    (filter (is_marked number) rows) (All-filter (is_marked number) (All (IsOfDocument doc)) rows lies))
