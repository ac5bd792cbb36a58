-- Products of lists of rows: one after another, and of three.
use Rattle.std.proofs.Common.{◌≡◌, ◌∙◌, List, [], ◌∷◌, ◌++◌, map, refl, sym, ap, ap₂, append_assoc}
use Rattle.std.proofs.lemmas.Grind.{flat_map-append}
use Rattle.std.proofs.lemmas.List.{map-append}
use Rattle.row_values.specs.Datums.{Datum}
use Rattle.row_values.specs.Rows.{product}
use Rattle.row_values.specs.RowBags.{product-nil, product-cons}
use Rattle.aql_typed.specs.Meaning.{Rows}

pub product-append : (xs ys right : Rows) → product (xs ++ ys) right ≡ product xs right ++ product ys right
unfolding product
product-append xs ys right = flat_map-append (λ (l : List Datum). map (λ r. l ++ r) right) xs ys

-- rows behind one more row
behind : (l : List Datum) (left right : Rows) → product (map (λ r. l ++ r) left) right ≡ map (λ r. l ++ r) (product left right)
behind l [] right = product-nil right ∙ ap (map (λ r. l ++ r)) (sym (product-nil right))
behind l (x ∷ left) right =
    product-cons (l ++ x) (map (λ r. l ++ r) left) right
    ∙ (ap₂ (λ (a b : Rows). a ++ b) (further right) (behind l left right)
    ∙ (sym (map-append (λ r. l ++ r) (map (λ r. x ++ r) right) (product left right)) ∙ ap (map (λ r. l ++ r)) (sym (product-cons x left right))))
  where
    further : (rows : Rows) → map (λ r. (l ++ x) ++ r) rows ≡ map (λ r. l ++ r) (map (λ r. x ++ r) rows)
    further [] = refl
    further (r ∷ rows) = ap₂ (λ (a : List Datum) (b : Rows). a ∷ b) (append_assoc l x r) (further rows)

pub product-assoc : (a b c : Rows) → product (product a b) c ≡ product a (product b c)
product-assoc [] b c = ap (λ (rows : Rows). product rows c) (product-nil b) ∙ (product-nil c ∙ sym (product-nil (product b c)))
product-assoc (l ∷ a) b c =
    ap (λ (rows : Rows). product rows c) (product-cons l a b)
    ∙ (product-append (map (λ r. l ++ r) b) (product a b) c
    ∙ (ap₂ (λ (x y : Rows). x ++ y) (behind l b c) (product-assoc a b c) ∙ sym (product-cons l a (product b c))))
