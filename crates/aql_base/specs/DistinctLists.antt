-- Lists in which no value occurs twice.
use Rattle.std.proofs.Common.{Contains, ◌≡◌, ◌≢◌, ℕ, zero, suc, ◌<◌, ◌≤◌, Bool, true, false, List, [], ◌∷◌, length, get_or, refl, sym, ap, subst, ◌∙◌, arith, All, AllPairs, count_by, true≢false}
use Rattle.std.specs.Cmp.{IsTotalOrder}
use Rattle.std.specs.List.Sorted.{IsSorted, IsStrictlySortedBy}
use Rattle.std.specs.Ordering.{is_lt, is_eq, eq_by_cmp, ordering_reverse}
use Rattle.std.specs.declared.cmp.Ordering.{Ordering}
use Rattle.std.specs.declared.cmp.Ordering.TheVariants.{Less, Equal, Greater}
use Rattle.std.proofs.lemmas.List.{get_or_default}
use Rattle.std.proofs.lemmas.List.Kept.{AllPairs-cons}
use Rattle.std.proofs.lemmas.List.Elements.{recursion_from_All}
use Rattle.std.proofs.lemmas.List.Sums.{sum_by-cons}
use Rattle.aql_base.specs.Bags.{SameBag}
use Rattle.aql_base.specs.CountLaws.{number_of, count_by-SameBag, one_at, told}
use Rattle.aql_base.specs.SortingLaws.{IsSorted-tail, IsSorted-head}

module _ {X : Type 0} where
  pub AllPairs-tail : (x : X) (xs : List X) → AllPairs (λ a b. a ≢ b) (x ∷ xs) → AllPairs (λ a b. a ≢ b) xs
  AllPairs-tail x xs h i j d below high = h (suc i) (suc j) d (omega arith) (omega arith)

  pub AllPairs-head : (x : X) (xs : List X) → AllPairs (λ a b. a ≢ b) (x ∷ xs) → All (λ y. x ≢ y) xs
  AllPairs-head x xs h k d below = h zero (suc k) d (omega arith) (omega arith)

  -- a value that isn't among distinct ones is put in front of them, and no other is
  pub AllPairs-distinct_cons : (x : X) (xs : List X) → (Contains xs x → ⊥) → AllPairs (λ a b. a ≢ b) xs → AllPairs (λ a b. a ≢ b) (x ∷ xs)
  AllPairs-distinct_cons x xs new h = AllPairs-cons (λ a b. a ≢ b) x xs (λ k d below e. new (k, below, get_or_default xs k x d below ∙ sym e)) h

  pub AllPairs-not_among : (x : X) (xs : List X) → AllPairs (λ a b. a ≢ b) (x ∷ xs) → Contains xs x → ⊥
  AllPairs-not_among x xs h at = AllPairs-head x xs h at.0 x at.1 (sym at.2)

  -- what no element passes is counted 0 times
  none_counted : (p : X → Bool) (xs : List X) → ((k : ℕ) (d : X) → k < length xs → p (get_or xs k d) ≡ false) → count_by p xs ≡ 0
  none_counted p [] h = refl
  none_counted p (x ∷ xs) h =
      let first = ap number_of (h zero x (omega arith)) in
      let rest = none_counted p xs (λ k d below. h (suc k) d (omega arith)) in
      omega (arith, sum_by-cons (λ y. number_of (p y)) x xs, first, rest)

  -- an element that passes is counted
  pub some_counted : (p : X → Bool) (xs : List X) (k : ℕ) (d : X) → k < length xs → p (get_or xs k d) ≡ true → 1 ≤ count_by p xs
  some_counted p [] k d below h = absurd (omega arith)
  some_counted p (x ∷ xs) zero d below h = omega (arith, sum_by-cons (λ y. number_of (p y)) x xs, ap number_of h)
  some_counted p (x ∷ xs) (suc k) d below h = omega (arith, sum_by-cons (λ y. number_of (p y)) x xs, some_counted p xs k d (omega arith) h)

module _ {X : Type 0} {cmp : X → X → Ordering} (order : IsTotalOrder cmp) (exact : (x y : X) → cmp x y ≡ Equal → x ≡ y) where
  unlike : (x y : X) (b : Bool) → eq_by_cmp cmp x y ≡ b → x ≢ y → eq_by_cmp cmp x y ≡ false
  unlike x y true e n = absurd (n (told order exact x y e))
  unlike x y false e n = e

  -- in a list of distinct values each is counted once at most
  at_most_once : (xs : List X) → AllPairs (λ a b. a ≢ b) xs → (z : X) → count_by (eq_by_cmp cmp z) xs ≤ 1
  at_most_once [] h z = omega arith
  at_most_once (x ∷ xs) h z = by (eq_by_cmp cmp z x) refl (at_most_once xs (AllPairs-tail x xs h) z)
    where
      by : (b : Bool) → eq_by_cmp cmp z x ≡ b → count_by (eq_by_cmp cmp z) xs ≤ 1 → count_by (eq_by_cmp cmp z) (x ∷ xs) ≤ 1
      by true e later =
          let is = told order exact z x e in
          let none = none_counted (eq_by_cmp cmp z) xs (λ k d below. unlike z (get_or xs k d) (eq_by_cmp cmp z (get_or xs k d)) refl (λ q. AllPairs-head x xs h k d below (sym is ∙ q))) in
          omega (arith, sum_by-cons (λ y. number_of (eq_by_cmp cmp z y)) x xs, ap number_of e, none)
      by false e later = omega (arith, sum_by-cons (λ y. number_of (eq_by_cmp cmp z y)) x xs, ap number_of e, later)

  below_by : (x y : X) (o : Ordering) → cmp x y ≡ o → is_lt (cmp y x) ≡ false → eq_by_cmp cmp x y ≡ false → cmp x y ≡ Less
  below_by x y Less e h k = e
  below_by x y Equal e h k = absurd (true≢false (sym (ap is_eq e) ∙ k))
  below_by x y Greater e h k = absurd (true≢false (sym (ap is_lt (order.antisymm y x ∙ ap ordering_reverse e)) ∙ h))

  false_from : (b : Bool) → (b ≡ true → ⊥) → b ≡ false
  false_from true h = absurd (h refl)
  false_from false h = refl

  rising : (ys : List X) → ((z : X) → count_by (eq_by_cmp cmp z) ys ≤ 1) → IsSorted cmp ys → IsStrictlySortedBy cmp ys
  unfolding IsStrictlySortedBy
  rising [] once h = tt
  rising (y ∷ ys) once h = (
    recursion_from_All (λ z. cmp y z ≡ Less) ys (λ k d below.
        let differs : eq_by_cmp cmp y (get_or ys k d) ≡ false = false_from (eq_by_cmp cmp y (get_or ys k d)) (λ e.
        omega (arith, once y, sum_by-cons (λ z. number_of (eq_by_cmp cmp y z)) y ys, one_at order exact y, some_counted (eq_by_cmp cmp y) ys k d below e)) in
        below_by y (get_or ys k d) (cmp y (get_or ys k d)) refl (IsSorted-head order y ys h k d below) differs),
    rising ys (λ z. omega (arith, once z, sum_by-cons (λ y'. number_of (eq_by_cmp cmp z y')) y ys)) (IsSorted-tail order y ys h),
  )

  -- distinct values in order rise
  pub IsStrictlySortedBy-from_distinct : (xs ys : List X) → AllPairs (λ a b. a ≢ b) xs → SameBag xs ys → IsSorted cmp ys → IsStrictlySortedBy cmp ys
  IsStrictlySortedBy-from_distinct xs ys distinct bag h = rising ys (λ z. subst (λ n. n ≤ 1) (count_by-SameBag (eq_by_cmp cmp z) xs ys bag) (at_most_once xs distinct z)) h
