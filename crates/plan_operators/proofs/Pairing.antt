-- Rows that are passed on one by one: pairs of rows on which conditions hold, and values for what is found.
use Rattle.std.proofs.Common.{◌≡◌, ◌++◌, List, [], ◌∷◌, Option, map, refl, ap, ap₂, sym, ◌∙◌}
use Rattle.std.specs.List.{flat_map}
use Rattle.span_token.specs.Documents.{Doc}
use Rattle.row_values.specs.Datums.{Datum, IsOfDocument}
use Rattle.row_values.specs.Rows.{RowsLieIn, product}
use Rattle.row_values.specs.RowBags.{RowsLieIn-product}
use Rattle.std.specs.List.{All}
use Rattle.std.proofs.lemmas.List.{map-append}
use Rattle.std.proofs.lemmas.List.Elements.{All-filter, filter-append}
use Rattle.span_token.specs.Extents.{Extent}
use Rattle.scalar_ops.specs.Expressions.{Term}
use Rattle.scalar_ops.specs.Tables.{Lists}
use Rattle.scalar_ops.specs.Values.{holding}
use Rattle.aql_typed.specs.Meaning.{found_in, group_value, selected}
use Rattle.aql_typed.specs.Trees.{Extraction}
use Rattle.algebra.specs.Operators.{followed, with_found}

module _ (lists : Lists) (doc : Doc) (conds : List Term) where
  pub selected-product : (left right : List (List Datum)) → flat_map (λ row. selected lists doc conds (map (λ other. row ++ other) right)) left ≡ selected lists doc conds (product left right)
  unfolding product
  selected-product [] right = refl
  selected-product (row ∷ left) right =
      ap (λ rest. selected lists doc conds (map (λ other. row ++ other) right) ++ rest) (selected-product left right)
      ∙ sym (filter-append (holding lists doc conds) (map (λ other. row ++ other) right) (flat_map (λ l. map (λ r. l ++ r) right) left))

  pub pairs_lie : (left right : List (List Datum)) → RowsLieIn doc left → RowsLieIn doc right → RowsLieIn doc (selected lists doc conds (product left right))
  pairs_lie left right l r = All-filter (holding lists doc conds) (All (IsOfDocument doc)) (product left right) (RowsLieIn-product doc left right l r)

-- a value for each image
map-each : {X Y Z : Type 0} (g : Y → Z) (f : X → Y) (xs : List X) → map (λ x. g (f x)) xs ≡ map g (map f xs)
map-each g f [] = refl
map-each {X} {Y} {Z} g f (x ∷ xs) = ap (λ (rest : List Z). g (f x) ∷ rest) (map-each g f xs)

-- values for what is found in each row
module _ (lists : Lists) (doc : Doc) (e : Extraction) (value : List Datum → List Datum) where
  pub values-found : (rows : List (List Datum)) → flat_map (λ row. map (λ groups. value (row ++ map group_value groups)) (found_in lists doc e row)) rows ≡ map value (with_found lists doc e rows)
  values-found [] = refl
  values-found (row ∷ rows) =
      ap₂ (λ (a b : List (List Datum)). a ++ b) (map-each value (λ (groups : List (Option Extent)). row ++ map group_value groups) (found_in lists doc e row)) (values-found rows)
      ∙ sym (map-append value (followed lists doc e row) (flat_map (followed lists doc e) rows))
