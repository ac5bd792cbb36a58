-- Targets that are told by their rows: consolidation then goes by the bag of rows alone.
use Rattle.std.proofs.Common.{◌≡◌, Bool, true, false, cond, List, [], ◌∷◌, map, refl, sym, ap, ◌∙◌, Option}
use Rattle.std.specs.List.{zip}
use Rattle.std.specs.Ordering.{is_lt}
use Rattle.aql_base.specs.Bags.{SameBag}
use Rattle.aql_base.specs.Sorting.{put_in_order, sorted_by}
use Rattle.row_values.specs.Datums.{Datum}
use Rattle.row_values.specs.Rows.{row_cmp, sorted}
use Rattle.row_values.specs.SortedRows.{sorted-SameBag}
use Rattle.span_token.specs.Extents.{Extent}
use Rattle.span_sets.specs.Consolidation.{in_row_order, rows_in_order, targets_in_order}

module _ (target : List Datum → Option Extent) where
  abbrev with_target : List Datum → List Datum × Option Extent
  with_target row = (row, target row)

  zip-map : (rows : List (List Datum)) → zip rows (map target rows) ≡ map with_target rows
  zip-map [] = refl
  zip-map (row ∷ rows) = ap (λ ps. with_target row ∷ ps) (zip-map rows)

  put_in_order-with_target : (row : List Datum) (rows : List (List Datum)) → put_in_order (λ p q. row_cmp p.0 q.0) (with_target row) (map with_target rows) ≡ map with_target (put_in_order row_cmp row rows)
  unfolding put_in_order
  put_in_order-with_target row [] = refl
  put_in_order-with_target row (r ∷ rows) = by (is_lt (row_cmp r row)) (put_in_order-with_target row rows)
    where
      by : (b : Bool) → put_in_order (λ p q. row_cmp p.0 q.0) (with_target row) (map with_target rows) ≡ map with_target (put_in_order row_cmp row rows)
          → cond b (with_target r ∷ put_in_order (λ p q. row_cmp p.0 q.0) (with_target row) (map with_target rows)) (with_target row ∷ with_target r ∷ map with_target rows) ≡ map with_target (cond b (r ∷ put_in_order row_cmp row rows) (row ∷ r ∷ rows))
      by true h = ap (λ ps. with_target r ∷ ps) h
      by false h = refl

  sorted_by-with_target : (rows : List (List Datum)) → sorted_by (λ p q. row_cmp p.0 q.0) (map with_target rows) ≡ map with_target (sorted_by row_cmp rows)
  unfolding sorted_by
  sorted_by-with_target [] = refl
  sorted_by-with_target (row ∷ rows) = ap (λ ps. put_in_order (λ p q. row_cmp p.0 q.0) (with_target row) ps) (sorted_by-with_target rows) ∙ put_in_order-with_target row (sorted_by row_cmp rows)

  pub in_row_order-map : (rows : List (List Datum)) → in_row_order rows (map target rows) ≡ map with_target (sorted rows)
  unfolding in_row_order sorted
  in_row_order-map rows = ap (λ ps. sorted_by (λ p q. row_cmp p.0 q.0) ps) (zip-map rows) ∙ sorted_by-with_target rows

  first_of : (rows : List (List Datum)) → map (λ p. p.0) (map with_target rows) ≡ rows
  first_of [] = refl
  first_of (row ∷ rows) = ap (λ rs. row ∷ rs) (first_of rows)

  second_of : (rows : List (List Datum)) → map (λ p. p.1) (map with_target rows) ≡ map target rows
  second_of [] = refl
  second_of (row ∷ rows) = ap (λ ts. target row ∷ ts) (second_of rows)

  -- the rows are the sorted rows
  pub rows_in_order-map : (rows : List (List Datum)) → rows_in_order rows (map target rows) ≡ sorted rows
  rows_in_order-map rows = ap (λ ps. map (λ (p : List Datum × Option Extent). p.0) ps) (in_row_order-map rows) ∙ first_of (sorted rows)

  -- and their targets are those of the sorted rows
  pub targets_in_order-map : (rows : List (List Datum)) → targets_in_order rows (map target rows) ≡ map target (sorted rows)
  targets_in_order-map rows = ap (λ ps. map (λ (p : List Datum × Option Extent). p.1) ps) (in_row_order-map rows) ∙ second_of (sorted rows)

  -- so equal bags have one order
  pub in_row_order-SameBag : (xs ys : List (List Datum)) → SameBag xs ys → in_row_order xs (map target xs) ≡ in_row_order ys (map target ys)
  in_row_order-SameBag xs ys bag = in_row_order-map xs ∙ ap (λ rows. map with_target rows) (sorted-SameBag xs ys bag) ∙ sym (in_row_order-map ys)
