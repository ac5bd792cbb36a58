-- Rows that are searched for among rows in row order.
use Rattle.std.proofs.Common.{◌≡◌, ◌∙◌, ℕ, ◌+◌, ◌<◌, Bool, true, false, true≢false, List, [], ◌∷◌, map, length, get_or, refl, sym, ap, subst, arith, Contains, ⊎_elim}
use Rattle.std.specs.Prelude.{Result, Ok, Err, is_ok}
use Rattle.std.specs.Ordering.{is_eq, is_lt}
use Rattle.std.specs.List.Sorted.{IsSortedBy, IsSearchInRange, IsBinarySearchResult}
use Rattle.std.specs.declared.cmp.Ordering.TheVariants.{Equal}
use Rattle.std.proofs.lemmas.List.{length-map, get_or-map}
use Rattle.std.proofs.lemmas.Bool.{cases_lt}
use Rattle.std.proofs.lemmas.List.Sorted.{searchable_from_sorted}
use Rattle.row_values.specs.Datums.{Datum}
use Rattle.row_values.specs.Rows.{row_cmp, does_occur, IsInOrder}
use Rattle.row_values.specs.RowOrder.{row_cmp_total, row_cmp_exact, row_cmp_itself}
use Rattle.row_values.specs.RowBags.{does_occur-is}

module _ {X : Type 0} (key : X → List Datum) where
  -- what shows rows in row order is itself in that order
  in_order : (x : X) (xs : List X) → IsInOrder (map key (x ∷ xs)) → IsSortedBy (λ a b. is_lt (row_cmp (key a) (key b))) (x ∷ xs)
  in_order x xs up = λ k d low high.
      let below : k + 1 < length (map key (x ∷ xs)) = omega (arith, high, length-map (x ∷ xs) key) in
      let before : k < length (x ∷ xs) = omega (arith, high) in
      subst (λ (b : List Datum). is_lt (row_cmp (key (get_or (x ∷ xs) (k + 1) d)) b) ≡ false) (get_or-map key (x ∷ xs) k d (key d) before)
      (subst (λ (a : List Datum). is_lt (row_cmp a (get_or (map key (x ∷ xs)) k (key d))) ≡ false) (get_or-map key (x ∷ xs) (k + 1) d (key d) high) (up k (key d) low below))

  module _ (x : X) (xs : List X) (row : List Datum) where
    equal_at : (i : ℕ) → i < length (x ∷ xs) → ((d : X) → row_cmp (key (get_or (x ∷ xs) i d)) row ≡ Equal) → Contains (map key (x ∷ xs)) row
    equal_at i below at =
        (i, omega (arith, below, length-map (x ∷ xs) key), row_cmp_exact (get_or (map key (x ∷ xs)) i row) row (ap (λ (r : List Datum). row_cmp r row) (get_or-map key (x ∷ xs) i x row below) ∙ at x))

    -- a row that is there is neither before nor behind what stands at its index
    equal_there : (there : Contains (map key (x ∷ xs)) row) → row_cmp (key (get_or (x ∷ xs) there.0 x)) row ≡ Equal
    equal_there there =
        ap (λ (r : List Datum). row_cmp r row) (sym (get_or-map key (x ∷ xs) there.0 x row (omega (arith, there.1, length-map (x ∷ xs) key))) ∙ there.2) ∙ row_cmp_itself row

    absent : (i : ℕ) → IsInOrder (map key (x ∷ xs)) → IsBinarySearchResult (λ y. row_cmp (key y) row) (x ∷ xs) (Err i) → Contains (map key (x ∷ xs)) row → ⊥
    absent i up at there =
        let parted = at (searchable_from_sorted row_cmp_total key (x ∷ xs) row (in_order x xs up)) in
        let below : there.0 < length (x ∷ xs) = omega (arith, there.1, length-map (x ∷ xs) key) in
        let equal = equal_there there in
        ⊎_elim (λ before. true≢false (ap is_eq (sym equal ∙ parted.0 there.0 x (omega arith) before)))
        (λ behind. true≢false (ap is_eq (sym equal ∙ parted.1 there.0 x behind below))) (cases_lt there.0 i)

  none_there : (b : Bool) → (b ≡ true → ⊥) → false ≡ b
  none_there true never = absurd (never refl)
  none_there false never = refl

  -- what a binary search answers is whether the row is there
  pub found : (xs : List X) (row : List Datum) (r : Result ℕ ℕ) → IsInOrder (map key xs) → IsSearchInRange r (length xs) → IsBinarySearchResult (λ y. row_cmp (key y) row) xs r
      → is_ok r ≡ does_occur (map key xs) row
  found [] row (Ok i) up below at = absurd (omega (arith, below))
  found [] row (Err i) up below at = refl
  found (x ∷ xs) row (Ok i) up below at = sym ((does_occur-is (map key (x ∷ xs)) row).1 (equal_at x xs row i below at))
  found (x ∷ xs) row (Err i) up below at =
      none_there (does_occur (map key (x ∷ xs)) row) (λ here. absent x xs row i up at ((does_occur-is (map key (x ∷ xs)) row).0 here))
