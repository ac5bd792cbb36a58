-- Rows in row order: which they are, and where they lie.
use Rattle.std.proofs.Common.{◌≡◌, ◌∙◌, ℕ, List, Option, sym, ap, subst}
use Rattle.aql_base.specs.Bags.{SameBag}
use Rattle.span_token.specs.Documents.{Doc}
use Rattle.row_values.specs.Datums.{Datum}
use Rattle.row_values.specs.Rows.{RowList, RowsLieIn, sorted}
use Rattle.row_values.specs.SortedRows.{sorted-SameBag}
use Rattle.group_agg.specs.declared.agg.Agg.{Agg}
use Rattle.group_agg.specs.Groups.{grouped}
use Rattle.group_agg.specs.Limits.{IsLimited}
use Rattle.row_operators.proofs.Lying.{among_lie, sorted_lie, grouped_lie}

-- a bag in row order is the sorted list
pub in_row_order : (rows : List (List Datum)) (out : RowList) (after : RowList) → SameBag rows out.rows
    → after ≡ record { width = out.width; rows = sorted out.rows } → after.rows ≡ sorted rows
in_row_order rows out after bag is = ap (λ (list : RowList). list.rows) is ∙ sym (sorted-SameBag rows out.rows bag)

-- where the first rows lie
pub limited_lie : (doc : Doc) (keys : List ℕ) (limit : Option ℕ) (rows out after : RowList) → IsLimited keys limit rows out
    → after ≡ record { width = out.width; rows = sorted out.rows } → RowsLieIn doc rows.rows → RowsLieIn doc after.rows
limited_lie doc keys limit rows out after limits is lies =
    subst (λ (list : RowList). RowsLieIn doc list.rows) (sym is) (sorted_lie doc out.rows (among_lie doc out.rows limits.rest rows.rows limits.parts lies))

-- and those of groups
pub groups_lie : (doc : Doc) (keys : List ℕ) (aggs : List Agg) (rows after : List (List Datum)) → after ≡ sorted (grouped keys aggs rows) → RowsLieIn doc rows → RowsLieIn doc after
groups_lie doc keys aggs rows after is lies = subst (RowsLieIn doc) (sym is) (sorted_lie doc (grouped keys aggs rows) (grouped_lie doc keys aggs rows lies))
