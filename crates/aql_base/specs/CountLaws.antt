-- Counts decide bags.
use Rattle.std.proofs.Common.{All, eq-zero-or-pos, inl, inr, ◌⊎◌, ◌≡◌, ℕ, suc, ◌<◌, Bool, true, false, cond, List, [], ◌∷◌, length, get_or, remove, refl, sym, ap, ◌∙◌, arith, count_by, true≢false}
use Rattle.std.specs.Cmp.{IsTotalOrder}
use Rattle.std.specs.Ordering.{is_eq, eq_by_cmp}
use Rattle.std.specs.declared.cmp.Ordering.{Ordering}
use Rattle.std.specs.declared.cmp.Ordering.TheVariants.{Less, Equal, Greater}
use Rattle.std.proofs.lemmas.Cmp.{tied_itself}
use Rattle.std.proofs.lemmas.List.Sums.{sum_by-cons, sum_by-remove}
use Rattle.std.proofs.lemmas.List.Sorted.{IsPermutation-refl, IsPermutation-sym, IsPermutation-trans, IsPermutation-cons, IsPermutation-remove, sum_by-IsPermutation, length_permutation}
use Rattle.aql_base.specs.Bags.{SameBag, count_of, OccursEquallyOften}

abbrev pub number_of : Bool → ℕ
number_of b = cond b 1 0

-- equal bags have as many elements that pass a test
pub count_by-SameBag : {X : Type 0} (p : X → Bool) (xs ys : List X) → SameBag xs ys → count_by p xs ≡ count_by p ys
count_by-SameBag p xs ys h = sym (sum_by-IsPermutation (λ x. number_of (p x)) xs ys h)

pub length-SameBag : {X : Type 0} (xs ys : List X) → SameBag xs ys → length xs ≡ length ys
length-SameBag xs ys h = sym (length_permutation xs ys h)

-- one of the elements passes where their count isn't 0
pub some_passes : {X : Type 0} (p : X → Bool) (xs : List X) → 0 < count_by p xs → (k : ℕ) × (k < length xs) × ((d : X) → p (get_or xs k d) ≡ true)
some_passes p [] h = absurd (omega arith)
some_passes {X} p (x ∷ xs) h = by (p x) refl (some_passes p xs)
  where
    by : (b : Bool) → p x ≡ b → (0 < count_by p xs → (k : ℕ) × (k < length xs) × ((d : X) → p (get_or xs k d) ≡ true)) →
        (k : ℕ) × (k < length (x ∷ xs)) × ((d : X) → p (get_or (x ∷ xs) k d) ≡ true)
    by true e later = (0, omega arith, λ d. e)
    by false e later =
        let counted = sum_by-cons (λ y. number_of (p y)) x xs in
        let none = ap (λ b. number_of b) e in
        let rest = later (omega (arith, counted, none)) in
        (suc rest.0, omega (arith, rest.1), rest.2)

module _ {X : Type 0} {cmp : X → X → Ordering} (order : IsTotalOrder cmp) (exact : (x y : X) → cmp x y ≡ Equal → x ≡ y) where
  same : X → X → Bool
  same x y = eq_by_cmp cmp x y

  pub told : (x y : X) → eq_by_cmp cmp x y ≡ true → x ≡ y
  told x y e = by (cmp x y) refl
    where
      by : (o : Ordering) → cmp x y ≡ o → x ≡ y
      by Less f = absurd (true≢false (sym e ∙ ap is_eq f))
      by Equal f = exact x y f
      by Greater f = absurd (true≢false (sym e ∙ ap is_eq f))

  itself : (x : X) → eq_by_cmp cmp x x ≡ true
  itself x = ap is_eq (tied_itself order x)

  pub one_at : (x : X) → number_of (eq_by_cmp cmp x x) ≡ 1
  one_at x = ap number_of (itself x)

  -- counts decide bags, where the order tells all values apart
  pub SameBag-from_counts : (xs ys : List X) → OccursEquallyOften cmp xs ys → SameBag xs ys
  SameBag-from_counts [] [] h = IsPermutation-refl []
  SameBag-from_counts [] (y ∷ ys) h =
      absurd (omega (arith, h y, one_at y, sum_by-cons (λ z. number_of (eq_by_cmp cmp y z)) y ys))
  SameBag-from_counts (x ∷ xs) ys h =
      let counted = sum_by-cons (λ z. number_of (eq_by_cmp cmp x z)) x xs in
      let at = some_passes (eq_by_cmp cmp x) ys (omega (arith, h x, counted, one_at x)) in
      let k = at.0 in
      let is : x ≡ get_or ys k x = told x (get_or ys k x) (at.2 x) in
      let front : SameBag ys (x ∷ remove ys k) = IsPermutation-remove ys k x at.1 is in
      let rest : OccursEquallyOften cmp xs (remove ys k) = λ z.
      omega (arith, h z, sum_by-cons (λ y. number_of (eq_by_cmp cmp z y)) x xs, sum_by-remove (λ y. number_of (eq_by_cmp cmp z y)) ys k x at.1, ap (λ y. number_of (eq_by_cmp cmp z y)) is) in
      IsPermutation-trans _ _ _ (IsPermutation-cons x xs (remove ys k) (SameBag-from_counts xs (remove ys k) rest)) (IsPermutation-sym _ _ front)

  pub counts_from_SameBag : (xs ys : List X) → SameBag xs ys → OccursEquallyOften cmp xs ys
  counts_from_SameBag xs ys h x = count_by-SameBag (eq_by_cmp cmp x) xs ys h

  -- one value is taken from both
  pub SameBag-uncons : (x : X) (xs ys : List X) → SameBag (x ∷ xs) (x ∷ ys) → SameBag xs ys
  SameBag-uncons x xs ys h = SameBag-from_counts xs ys (λ z.
      omega (arith, counts_from_SameBag (x ∷ xs) (x ∷ ys) h z, sum_by-cons (λ y. number_of (eq_by_cmp cmp z y)) x xs, sum_by-cons (λ y. number_of (eq_by_cmp cmp z y)) x ys))

module _ {X : Type 0} {cmp : X → X → Ordering} (order : IsTotalOrder cmp) where
  equal_from : (o : Ordering) → is_eq o ≡ true → o ≡ Equal
  equal_from Less e = absurd (true≢false (sym e))
  equal_from Equal e = refl
  equal_from Greater e = absurd (true≢false (sym e))

  -- values that the order doesn't tell apart occur equally often
  count_of-alike : (x y : X) (zs : List X) → eq_by_cmp cmp x y ≡ true → count_of cmp x zs ≡ count_of cmp y zs
  count_of-alike x y zs e = λ i. count_by (λ z. is_eq (order.congr x y z (equal_from (cmp x y) e) i)) zs

  at_an_element : (x : X) (items xs ys : List X) → 0 < count_of cmp x items → All (λ y. count_of cmp y xs ≡ count_of cmp y ys) items → count_of cmp x xs ≡ count_of cmp x ys
  at_an_element x items xs ys some all =
      let at = some_passes (eq_by_cmp cmp x) items some in
      let y = get_or items at.0 x in
      count_of-alike x y xs (at.2 x) ∙ all at.0 x at.1 ∙ sym (count_of-alike x y ys (at.2 x))

  -- counts that agree at the elements of both lists agree everywhere
  pub OccursEquallyOften-from_elements : (xs ys : List X) → All (λ y. count_of cmp y xs ≡ count_of cmp y ys) xs → All (λ y. count_of cmp y xs ≡ count_of cmp y ys) ys → OccursEquallyOften cmp xs ys
  OccursEquallyOften-from_elements xs ys h k x = by (eq-zero-or-pos (count_of cmp x xs)) (eq-zero-or-pos (count_of cmp x ys))
    where
      by : (count_of cmp x xs ≡ 0) ⊎ (0 < count_of cmp x xs) → (count_of cmp x ys ≡ 0) ⊎ (0 < count_of cmp x ys) → count_of cmp x xs ≡ count_of cmp x ys
      by (inl e) (inl f) = e ∙ sym f
      by (inr some) q = at_an_element x xs xs ys some h
      by p (inr some) = at_an_element x ys xs ys some k
