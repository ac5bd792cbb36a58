-- What lies in the document: rows that stay, and rows of groups.
use Rattle.std.proofs.Common.{ℕ, ℤ, true, false, List, [], ◌∷◌, ◌++◌, map, subst, if◌then◌else◌, arith}
use Rattle.std.specs.List.{All}
use Rattle.std.specs.Ordering.{is_lt, eq_by_cmp, flip_args}
use Rattle.std.specs.declared.cmp.Ordering.{Ordering}
use Rattle.std.proofs.lemmas.List.Elements.{All-nil, All-cons, All-head, All-tail, All-map, All-filter, All-weaker}
use Rattle.std.proofs.lemmas.List.{get_or_append_left, length-append}
use Rattle.std.proofs.lemmas.List.Filters.{All-dedup}
use Rattle.aql_base.specs.Bags.{SameBag}
use Rattle.aql_base.specs.BagLaws.{SameBag-sym}
use Rattle.aql_base.specs.Sorting.{put_in_order, sorted_by}
use Rattle.span_token.specs.Documents.{Doc}
use Rattle.row_values.specs.Datums.{Datum, datum_cmp, IsOfDocument}
use Rattle.row_values.specs.Rows.{row_cmp, value_in, sorted, RowsLieIn}
use Rattle.row_values.specs.RowBags.{RowsLieIn-column, RowsLieIn-SameBag}
use Rattle.row_values.specs.SortedRows.{SameBag-sorted}
use Rattle.group_agg.specs.declared.agg.Agg.{Agg}
use Rattle.group_agg.specs.declared.agg.Agg.TheVariants.{Key, Count, CountOf, Sum, Min, Max}
use Rattle.group_agg.specs.Groups.{key_of, group_of, values_of, integers_of, sum_of, aggregate, keys_in, grouped}

all-left : {X : Type 0} (P : X → Type 0) (xs ys : List X) → All P (xs ++ ys) → All P xs
all-left P xs ys all k d below = subst P (get_or_append_left xs ys d k below) (all k d (omega (arith, below, length-append xs ys)))

-- rows that are among rows of the document
pub among_lie : (doc : Doc) (out gone rows : List (List Datum)) → SameBag (out ++ gone) rows → RowsLieIn doc rows → RowsLieIn doc out
among_lie doc out gone rows bag lies =
    all-left (All (IsOfDocument doc)) out gone (RowsLieIn-SameBag doc rows (out ++ gone) (SameBag-sym (out ++ gone) rows bag) lies)

pub sorted_lie : (doc : Doc) (rows : List (List Datum)) → RowsLieIn doc rows → RowsLieIn doc (sorted rows)
sorted_lie doc rows lies = RowsLieIn-SameBag doc rows (sorted rows) (SameBag-sorted rows) lies

-- ---- what holds of elements holds of them in order

All-put : {X : Type 0} (P : X → Type 0) (cmp : X → X → Ordering) (x : X) (ys : List X) → P x → All P ys → All P (put_in_order cmp x ys)
unfolding put_in_order
All-put P cmp x [] here rest = All-cons P x [] here rest
All-put P cmp x (y ∷ ys) here rest =
    elim (is_lt (cmp y x)) as (λ b. All P (if b then y ∷ put_in_order cmp x ys else x ∷ y ∷ ys)) [
      | true ↦ All-cons P y (put_in_order cmp x ys) (All-head P y ys rest) (All-put P cmp x ys here (All-tail P y ys rest))
      | false ↦ All-cons P x (y ∷ ys) here rest
    ]

All-sorted_by : {X : Type 0} (P : X → Type 0) (cmp : X → X → Ordering) (xs : List X) → All P xs → All P (sorted_by cmp xs)
unfolding sorted_by
All-sorted_by P cmp [] all = all
All-sorted_by P cmp (x ∷ xs) all = All-put P cmp x (sorted_by cmp xs) (All-head P x xs all) (All-sorted_by P cmp xs (All-tail P x xs all))

-- ---- rows of groups

module _ (doc : Doc) where
  pub in_column : (row : List Datum) (column : ℕ) → All (IsOfDocument doc) row → IsOfDocument doc (value_in row column)
  in_column row column lies =
      All-head (λ row. IsOfDocument doc (value_in row column)) row []
      (RowsLieIn-column doc column (row ∷ []) (All-cons (All (IsOfDocument doc)) row [] lies (All-nil (All (IsOfDocument doc)))))

  keys_lie : (keys : List ℕ) (row : List Datum) → All (IsOfDocument doc) row → All (IsOfDocument doc) (key_of keys row)
  keys_lie keys row lies = All-map (IsOfDocument doc) (value_in row) keys (λ k d below. in_column row _ lies)

  values_lie : (column : ℕ) (rows : List (List Datum)) → RowsLieIn doc rows → All (IsOfDocument doc) (values_of column rows)
  values_lie column rows lies =
      All-filter (λ value. _) (IsOfDocument doc) (map (λ row. value_in row column) rows)
      (All-map (IsOfDocument doc) (λ row. value_in row column) rows (RowsLieIn-column doc column rows lies))

  first_lies : (values : List Datum) → All (IsOfDocument doc) values → IsOfDocument doc (value_in values 0)
  first_lies [] lies = tt
  first_lies (x ∷ xs) lies = All-head (IsOfDocument doc) x xs lies

  sum_lies : (ns : List ℤ) → IsOfDocument doc (sum_of ns)
  sum_lies [] = tt
  sum_lies (n ∷ ns) = tt

  aggregate_lies : (key : List Datum) (group : List (List Datum)) (agg : Agg) → All (IsOfDocument doc) key → RowsLieIn doc group → IsOfDocument doc (aggregate key group agg)
  aggregate_lies key group (Key k) lies all = in_column key k lies
  aggregate_lies key group Count lies all = tt
  aggregate_lies key group (CountOf column) lies all = tt
  aggregate_lies key group (Sum column) lies all = sum_lies (integers_of column group)
  aggregate_lies key group (Min column) lies all = first_lies (sorted_by datum_cmp (values_of column group)) (All-sorted_by (IsOfDocument doc) datum_cmp (values_of column group) (values_lie column group all))
  aggregate_lies key group (Max column) lies all =
      first_lies (sorted_by (flip_args datum_cmp) (values_of column group)) (All-sorted_by (IsOfDocument doc) (flip_args datum_cmp) (values_of column group) (values_lie column group all))

  -- values of keys and aggregates of rows of the document lie in it
  pub grouped_lie : (keys : List ℕ) (aggs : List Agg) (rows : List (List Datum)) → RowsLieIn doc rows → RowsLieIn doc (grouped keys aggs rows)
  unfolding grouped
  grouped_lie keys aggs rows lies =
      let all_keys = All-dedup (eq_by_cmp row_cmp) (All (IsOfDocument doc)) (sorted_by row_cmp (map (key_of keys) rows))
      (All-sorted_by (All (IsOfDocument doc)) row_cmp (map (key_of keys) rows)
      (All-map (All (IsOfDocument doc)) (key_of keys) rows (All-weaker (All (IsOfDocument doc)) (λ row. All (IsOfDocument doc) (key_of keys row)) (keys_lie keys) rows lies))) in
      All-map (All (IsOfDocument doc)) (λ key. map (aggregate key (group_of keys rows key)) aggs) (keys_in keys rows)
      (All-weaker (All (IsOfDocument doc)) (λ key. All (IsOfDocument doc) (map (aggregate key (group_of keys rows key)) aggs))
      (λ key here. All-map (IsOfDocument doc) (aggregate key (group_of keys rows key)) aggs
      (λ k d below. aggregate_lies key (group_of keys rows key) _ here (All-filter (λ row. eq_by_cmp row_cmp (key_of keys row) key) (All (IsOfDocument doc)) rows lies)))
      (keys_in keys rows) all_keys)
