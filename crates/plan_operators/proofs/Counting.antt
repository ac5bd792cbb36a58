-- How many elements of a list pass a test, by where those stand that do.
use Rattle.std.proofs.Common.{◌≡◌, ◌∙◌, ◌+◌, ◌-◌, ◌<◌, ◌≤◌, ℕ, zero, suc, Bool, true, false, cond, List, [], ◌∷◌, length, get_or, refl, ap, arith}
use Rattle.std.specs.List.{count_by}
use Rattle.std.proofs.lemmas.List.Sums.{sum_by-cons}

module _ {X : Type 0} (p : X → Bool) where
  count-yes : (x : X) (xs : List X) → p x ≡ true → count_by p (x ∷ xs) ≡ 1 + count_by p xs
  count-yes x xs e = sum_by-cons (λ y. cond (p y) 1 0) x xs ∙ ap (λ b. cond b 1 0 + count_by p xs) e

  count-no : (x : X) (xs : List X) → p x ≡ false → count_by p (x ∷ xs) ≡ 0 + count_by p xs
  count-no x xs e = sum_by-cons (λ y. cond (p y) 1 0) x xs ∙ ap (λ b. cond b 1 0 + count_by p xs) e

  more-most : (b : Bool) (x : X) (xs : List X) (first past : ℕ) → p x ≡ b → (b ≡ true → (first ≤ 0) × (0 < past)) → count_by p xs ≤ (past - 1) - (first - 1)
      → count_by p (x ∷ xs) ≤ past - first
  more-most true x xs first past is at rest = let here = at refl in omega (arith, here.0, here.1, rest, count-yes x xs is)
  more-most false x xs first past is at rest = omega (arith, rest, count-no x xs is)

  -- where only elements of a part pass, no more do than the part has
  pub count-most : (xs : List X) (first past : ℕ) → ((k : ℕ) (d : X) → k < length xs → p (get_or xs k d) ≡ true → (first ≤ k) × (k < past)) → count_by p xs ≤ past - first
  count-most [] first past only = omega arith
  count-most (x ∷ xs) first past only =
      more-most (p x) x xs first past refl (λ is. only 0 x (omega arith) is)
      (count-most xs (first - 1) (past - 1) (λ k d lt is. let at = only (suc k) d (omega (arith, lt)) is in (omega (arith, at.0), omega (arith, at.1))))

  more-least : (b : Bool) (x : X) (xs : List X) (n : ℕ) → p x ≡ b → n ≤ count_by p xs → n ≤ count_by p (x ∷ xs)
  more-least true x xs n is rest = omega (arith, rest, count-yes x xs is)
  more-least false x xs n is rest = omega (arith, rest, count-no x xs is)

  -- where all elements of a part pass, as many do
  pub count-least : (xs : List X) (first past : ℕ) → past ≤ length xs → ((k : ℕ) (d : X) → first ≤ k → k < past → p (get_or xs k d) ≡ true) → past - first ≤ count_by p xs
  count-least [] first past there all = omega (arith, there)
  count-least (x ∷ xs) zero zero there all = omega arith
  count-least (x ∷ xs) zero (suc past) there all =
      let rest = count-least xs 0 past (omega (arith, there)) (λ k d low high. all (suc k) d (omega arith) (omega (arith, high))) in
      omega (arith, rest, count-yes x xs (all 0 x (omega arith) (omega arith)))
  count-least (x ∷ xs) (suc first) past there all =
      let n : past - suc first ≡ (past - 1) - first = omega arith in
      let rest = count-least xs first (past - 1) (omega (arith, there)) (λ k d low high. all (suc k) d (omega (arith, low)) (omega (arith, high))) in
      more-least (p x) x xs (past - suc first) refl (omega (arith, n, rest))
