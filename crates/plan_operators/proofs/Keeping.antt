-- Rows that a policy keeps, of rows that are lent.
use Rattle.std.proofs.Common.{◌≡◌, ◌∙◌, List, [], ◌∷◌, ◌++◌, Option, length, map, sym, ap, subst, arith}
use Rattle.std.specs.List.{All}
use Rattle.std.proofs.lemmas.List.{length-map, length-append, get_or_append_left}
use Rattle.std.proofs.lemmas.List.Elements.{All-nil, All-cons, All-head, All-tail}
use Rattle.std.proofs.lemmas.List.Sorted.{length_permutation}
use Rattle.std.proofs.lemmas.Simd.{map-map}
use Rattle.aql_base.specs.BagLaws.{SameBag-sym}
use Rattle.span_token.specs.Documents.{Doc}
use Rattle.span_token.specs.Extents.{Extent}
use Rattle.row_values.specs.Datums.{Datum, IsOfDocument}
use Rattle.row_values.specs.Rows.{RowsLieIn, sorted}
use Rattle.row_values.specs.RowBags.{RowsLieIn-SameBag}
use Rattle.row_values.specs.SortedRows.{SameBag-sorted}
use Rattle.span_sets.specs.declared.policy.Policy.{Policy}
use Rattle.span_sets.specs.KeptRows.{consolidated}
use Rattle.span_sets.specs.Laws.{consolidated-among}

-- what holds of the images holds of each through the function
each_through : {X Y : Type 0} (P : X → Type 0) (f : Y → X) (ys : List Y) → All P (map f ys) → All (λ y. P (f y)) ys
each_through P f [] all = All-nil (λ y. P (f y))
each_through P f (y ∷ ys) all = All-cons (λ y. P (f y)) y ys (All-head P (f y) (map f ys) all) (each_through P f ys (All-tail P (f y) (map f ys) all))

module _ {R : Type 0} (row : R → List Datum) (order : List R) (rows : List (List Datum)) (is : map row order ≡ sorted rows) where
  -- rows in row order lie where the rows do
  pub order_lies : (doc : Doc) → RowsLieIn doc rows → All (λ r. All (IsOfDocument doc) (row r)) order
  order_lies doc lies =
      each_through (All (IsOfDocument doc)) row order (subst (RowsLieIn doc) (sym is) (RowsLieIn-SameBag doc rows (sorted rows) (SameBag-sorted rows) lies))

  -- and are as many
  pub order_long : length order ≡ length rows
  order_long = sym (length-map order row) ∙ ap (λ (rs : List (List Datum)). length rs) is ∙ length_permutation rows (sorted rows) (SameBag-sorted rows)

  -- their targets are told by the rows
  pub order_targets : (target : List Datum → Option Extent) → map (λ r. target (row r)) order ≡ map target (sorted rows)
  order_targets target = sym (map-map target row order) ∙ ap (λ (rs : List (List Datum)). map target rs) is

in_front : {X : Type 0} (P : X → Type 0) (xs ys : List X) → All P (xs ++ ys) → All P xs
in_front P xs ys all k d below = subst P (get_or_append_left xs ys d k below) (all k d (omega (arith, below, length-append xs ys)))

-- rows that stay lie where the rows do
pub kept_lie : (doc : Doc) (policy : Policy) (target : List Datum → Option Extent) (rows : List (List Datum)) → RowsLieIn doc rows → RowsLieIn doc (consolidated policy target rows)
kept_lie doc policy target rows lies =
    let among = consolidated-among policy rows (map target rows) (length-map rows target) in
    in_front (All (IsOfDocument doc)) (consolidated policy target rows) among.0
    (RowsLieIn-SameBag doc rows (consolidated policy target rows ++ among.0) (SameBag-sym (consolidated policy target rows ++ among.0) rows among.1) lies)
