-- Laws of filters over lists and products of rows.
use Rattle.std.proofs.Common.{◌≡◌, ℕ, Bool, true, false, cond, ◌&&◌, List, [], ◌∷◌, ◌++◌, map, length, refl, sym, ap, ap₂, ◌∙◌}
use Rattle.std.specs.List.{All, filter}
use Rattle.std.proofs.lemmas.List.Elements.{filter-append, filter_agree, All-head, All-tail}
use Rattle.row_values.specs.Datums.{Datum}
use Rattle.row_values.specs.Rows.{product}
use Rattle.row_values.specs.RowBags.{product-nil, product-cons}

and_turned : (a b : Bool) → (a && b) ≡ (b && a)
and_turned true true = refl
and_turned true false = refl
and_turned false true = refl
and_turned false false = refl

module _ {X : Type 0} where
  kept_by : (q : X → Bool) (a : Bool) (x : X) (rest kept : List X) → rest ≡ filter q kept → cond (a && q x) (x ∷ rest) rest ≡ filter q (cond a (x ∷ kept) kept)
  kept_by q true x rest kept e = ap (λ (ys : List X). cond (q x) (x ∷ ys) ys) e
  kept_by q false x rest kept e = e

  -- what passes two tests passes one after the other
  pub filter-filter : (p q : X → Bool) (xs : List X) → filter (λ x. p x && q x) xs ≡ filter q (filter p xs)
  filter-filter p q [] = refl
  filter-filter p q (x ∷ xs) = kept_by q (p x) x (filter (λ x. p x && q x) xs) (filter p xs) (filter-filter p q xs)

  -- in either order
  pub filter_comm : (p q : X → Bool) (xs : List X) → filter q (filter p xs) ≡ filter p (filter q xs)
  filter_comm p q xs =
      sym (filter-filter p q xs) ∙ (filter_agree (λ x. p x && q x) (λ x. q x && p x) (λ x. and_turned (p x) (q x)) xs ∙ filter-filter q p xs)

module _ {X Y : Type 0} where
  moved_by : (f : X → Y) (b : Bool) (x : X) (rest : List Y) (kept : List X) → rest ≡ map f kept → cond b (f x ∷ rest) rest ≡ map f (cond b (x ∷ kept) kept)
  moved_by f true x rest kept e = ap (λ (ys : List Y). f x ∷ ys) e
  moved_by f false x rest kept e = e

  -- what passes behind a function
  pub filter-map : (p : Y → Bool) (f : X → Y) (xs : List X) → filter p (map f xs) ≡ map f (filter (λ x. p (f x)) xs)
  filter-map p f [] = refl
  filter-map p f (x ∷ xs) = moved_by f (p (f x)) x (filter p (map f xs)) (filter (λ x. p (f x)) xs) (filter-map p f xs)

-- where a test of a pair is a test of its left row, one of its right row and one of both, the first two go below the product
module _ (width : ℕ) (p f g h : List Datum → Bool) (means : (l r : List Datum) → length l ≡ width → p (l ++ r) ≡ (f l && (g r && h (l ++ r)))) where
  pair_step : (a : Bool) (l r : List Datum) (rest kept : List (List Datum)) → rest ≡ filter h (map (λ r. l ++ r) kept)
      → cond (a && h (l ++ r)) ((l ++ r) ∷ rest) rest ≡ filter h (map (λ r. l ++ r) (cond a (r ∷ kept) kept))
  pair_step true l r rest kept e = ap (λ (ys : List (List Datum)). cond (h (l ++ r)) ((l ++ r) ∷ ys) ys) e
  pair_step false l r rest kept e = e

  of_row : (l : List Datum) → length l ≡ width → (b : Bool) → f l ≡ b → (right : List (List Datum)) → filter p (map (λ r. l ++ r) right) ≡ cond b (filter h (map (λ r. l ++ r) (filter g right))) []
  of_row l is true e [] = refl
  of_row l is true e (r ∷ right) =
      let rest = filter p (map (λ r. l ++ r) right) in
      ap (λ (b : Bool). cond b ((l ++ r) ∷ rest) rest) (means l r is ∙ ap (λ (a : Bool). a && (g r && h (l ++ r))) e)
      ∙ pair_step (g r) l r rest (filter g right) (of_row l is true e right)
  of_row l is false e [] = refl
  of_row l is false e (r ∷ right) =
      let rest = filter p (map (λ r. l ++ r) right) in
      ap (λ (b : Bool). cond b ((l ++ r) ∷ rest) rest) (means l r is ∙ ap (λ (a : Bool). a && (g r && h (l ++ r))) e)
      ∙ of_row l is false e right

  of_rows : (l : List Datum) (left right : List (List Datum)) → length l ≡ width → (b : Bool) → f l ≡ b
      → filter p (product left right) ≡ filter h (product (filter f left) (filter g right))
      → filter p (product (l ∷ left) right) ≡ filter h (product (cond b (l ∷ filter f left) (filter f left)) (filter g right))
  of_rows l left right is true e rest =
      ap (filter p) (product-cons l left right)
      ∙ (filter-append p (map (λ r. l ++ r) right) (product left right)
      ∙ (ap₂ ◌++◌ (of_row l is true e right) rest
      ∙ (sym (filter-append h (map (λ r. l ++ r) (filter g right)) (product (filter f left) (filter g right)))
      ∙ ap (filter h) (sym (product-cons l (filter f left) (filter g right))))))
  of_rows l left right is false e rest =
      ap (filter p) (product-cons l left right)
      ∙ (filter-append p (map (λ r. l ++ r) right) (product left right)
      ∙ ap₂ ◌++◌ (of_row l is false e right) rest)

  pub filter-product : (left right : List (List Datum)) → All (λ row. length row ≡ width) left → filter p (product left right) ≡ filter h (product (filter f left) (filter g right))
  filter-product [] right wide = ap (filter p) (product-nil right) ∙ sym (ap (filter h) (product-nil (filter g right)))
  filter-product (l ∷ left) right wide =
      of_rows l left right (All-head (λ row. length row ≡ width) l left wide) (f l) refl (filter-product left right (All-tail (λ row. length row ≡ width) l left wide))
