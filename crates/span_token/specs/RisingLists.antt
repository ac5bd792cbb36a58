-- Lists in a rising order that have the same elements, and lists made by a filter and a map.
use Rattle.std.proofs.Common.{◌≡◌, ◌≤◌, ◌<◌, ◌+◌, ◌-◌, ◌∙◌, ◌⊎◌, inl, inr, ℕ, zero, suc, Bool, true, false, cond, List, [], ◌∷◌, length, map, get_or, refl, sym, ap₂, subst, arith}
use Rattle.std.specs.List.{All, AllPairs, Contains, filter, range_with_len}
use Rattle.std.proofs.lemmas.List.{get_or-map, length-map}
use Rattle.std.proofs.lemmas.List.FromFn.{get_or-range_with_len, length-range_with_len}
use Rattle.std.proofs.lemmas.List.Elements.{All-contains}

pub Contains-here : {X : Type 0} (x : X) (xs : List X) → Contains (x ∷ xs) x
Contains-here x xs = (0, omega arith, refl)

pub Contains-there : {X : Type 0} (y : X) (xs : List X) (x : X) → Contains xs x → Contains (y ∷ xs) x
Contains-there y xs x h = (suc h.0, omega (arith, h.1), h.2)

pub Contains-cases : {X : Type 0} (y : X) (xs : List X) (x : X) → Contains (y ∷ xs) x → (y ≡ x) ⊎ Contains xs x
Contains-cases y xs x (zero, l, e) = inl e
Contains-cases y xs x (suc k, l, e) = inr (k, omega (arith, l), e)

pub AllPairs-head : {X : Type 0} (R : X → X → Type 0) (x : X) (xs : List X) → AllPairs R (x ∷ xs) → All (R x) xs
AllPairs-head R x xs all = λ k d h. all 0 (suc k) d (omega arith) (omega arith)

pub AllPairs-tail : {X : Type 0} (R : X → X → Type 0) (x : X) (xs : List X) → AllPairs R (x ∷ xs) → AllPairs R xs
AllPairs-tail R x xs all = λ i j d l h. all (suc i) (suc j) d (omega arith) (omega arith)

same_first : {X : Type 0} (R : X → X → Type 0) → ((x y : X) → R x y → R y x → ⊥) → (x y : X) (xs ys : List X) → ((z : X) → Contains xs z → R x z)
    → ((z : X) → Contains ys z → R y z) → Contains (y ∷ ys) x → Contains (x ∷ xs) y → x ≡ y
same_first R never_both x y xs ys above_x above_y there back =
    elim (Contains-cases y ys x there) [
      | inl e ↦ sym e
      | inr later ↦ elim (Contains-cases x xs y back) [
        | inl e ↦ e
        | inr after ↦ absurd (never_both x y (above_x y after) (above_y x later))
      ]
    ]

not_first : {X : Type 0} (R : X → X → Type 0) → ((x y : X) → R x y → R y x → ⊥) → (y z : X) (ys : List X) → R y z → Contains (y ∷ ys) z → Contains ys z
not_first R never_both y z ys above h =
    elim (Contains-cases y ys z h) [
      | inl e ↦ let itself : R y y = subst (R y) (sym e) above in absurd (never_both y y itself itself)
      | inr later ↦ later
    ]

-- two lists in one order that have the same elements are one
pub same_in_order : {X : Type 0} (R : X → X → Type 0) → ((x y : X) → R x y → R y x → ⊥) → (xs ys : List X) → AllPairs R xs → AllPairs R ys
    → ((x : X) → Contains xs x → Contains ys x) → ((x : X) → Contains ys x → Contains xs x) → xs ≡ ys
same_in_order R never_both [] [] up vp there back = refl
same_in_order R never_both [] (y ∷ ys) up vp there back = absurd (omega (arith, (back y (Contains-here y ys)).1))
same_in_order R never_both (x ∷ xs) [] up vp there back = absurd (omega (arith, (there x (Contains-here x xs)).1))
same_in_order {X} R never_both (x ∷ xs) (y ∷ ys) up vp there back =
    let above_x : (z : X) → Contains xs z → R x z = λ z. All-contains (R x) xs z (AllPairs-head R x xs up) in
    let above_y : (z : X) → Contains ys z → R y z = λ z. All-contains (R y) ys z (AllPairs-head R y ys vp) in
    let first : x ≡ y = same_first R never_both x y xs ys above_x above_y (there x (Contains-here x xs)) (back y (Contains-here y ys)) in
    ap₂ (λ z zs. z ∷ zs) first
    (same_in_order R never_both xs ys (AllPairs-tail R x xs up) (AllPairs-tail R y ys vp)
    (λ z h. not_first R never_both y z ys (subst (λ w. R w z) first (above_x z h)) (there z (Contains-there x xs z h)))
    (λ z h. not_first R never_both x z xs (subst (λ w. R w z) (sym first) (above_y z h)) (back z (Contains-there y ys z h))))

-- two lists that rise and have the same elements are one
pub same_rising : {X : Type 0} (f : X → ℕ) (xs ys : List X) → AllPairs (λ x y. f x < f y) xs → AllPairs (λ x y. f x < f y) ys
    → ((x : X) → Contains xs x → Contains ys x) → ((x : X) → Contains ys x → Contains xs x) → xs ≡ ys
same_rising f xs ys = same_in_order (λ x y. f x < f y) (λ x y low high. absurd (omega (arith, low, high))) xs ys

-- what a filter and a map leave, by the elements that they came from
listed_there : {X : Type 0} (b : Bool) (f : ℕ → X) (j : ℕ) (ks left : List ℕ) (x : X) → Contains (map f left) x → Contains (map f (cond b (j ∷ left) left)) x
listed_there true f j ks left x h = Contains-there (f j) (map f left) x h
listed_there false f j ks left x h = h

pub Contains-listed : {X : Type 0} (f : ℕ → X) (p : ℕ → Bool) (ks : List ℕ) (k : ℕ) → Contains ks k → p k ≡ true → Contains (map f (filter p ks)) (f k)
Contains-listed f p [] k h ok = absurd (omega (arith, h.1))
Contains-listed {X} f p (j ∷ ks) k h ok =
    elim (Contains-cases j ks k h) [
      | inl e ↦ rw (e, ok) (Contains-here (f k) (map f (filter p ks)))
      | inr later ↦ listed_there (p j) f j ks (filter p ks) (f k) (Contains-listed f p ks k later ok)
    ]

pub record IsFrom {X : Type 0} (f : ℕ → X) (p : ℕ → Bool) (ks : List ℕ) (x : X) : Type 0 where
  pub at : ℕ
  pub listed : Contains ks at
  pub passes : p at ≡ true
  pub gives : f at ≡ x

from_later : {X : Type 0} (f : ℕ → X) (p : ℕ → Bool) (j : ℕ) (ks : List ℕ) (x : X) → IsFrom f p ks x → IsFrom f p (j ∷ ks) x
from_later f p j ks x h = record { at = h.at; listed = Contains-there j ks h.at h.listed; passes = h.passes; gives = h.gives }

from_either : {X : Type 0} (b : Bool) (f : ℕ → X) (p : ℕ → Bool) (j : ℕ) (ks : List ℕ) (x : X) → p j ≡ b
    → (Contains (map f (filter p ks)) x → IsFrom f p ks x) → Contains (map f (cond b (j ∷ filter p ks) (filter p ks))) x → IsFrom f p (j ∷ ks) x
from_either true f p j ks x ok later h =
    elim (Contains-cases (f j) (map f (filter p ks)) x h) [
      | inl e ↦ record { at = j; listed = Contains-here j ks; passes = ok; gives = e }
      | inr after ↦ from_later f p j ks x (later after)
    ]
from_either false f p j ks x ok later h = from_later f p j ks x (later h)

pub IsFrom-Contains : {X : Type 0} (f : ℕ → X) (p : ℕ → Bool) (ks : List ℕ) (x : X) → Contains (map f (filter p ks)) x → IsFrom f p ks x
IsFrom-Contains f p [] x h = absurd (omega (arith, h.1))
IsFrom-Contains f p (j ∷ ks) x h = from_either (p j) f p j ks x refl (IsFrom-Contains f p ks x) h

-- the numbers of a range
gap : (a k : ℕ) → a ≤ k → a + (k - a) ≡ k
gap a k h = omega arith

pub Contains-range : (a n k : ℕ) → a ≤ k → k < a + n → Contains (range_with_len a n) k
Contains-range a n k low high =
    (k - a, omega (arith, length-range_with_len a n), get_or-range_with_len a n (k - a) k (omega arith) ∙ gap a k low)

pub in_range : (a n k : ℕ) → Contains (range_with_len a n) k → (a ≤ k) × (k < a + n)
in_range a n k (i, l, e) =
    let at : get_or (range_with_len a n) i k ≡ a + i = get_or-range_with_len a n i k (omega (arith, l, length-range_with_len a n)) in
    (omega (arith, at, e), omega (arith, at, e, l, length-range_with_len a n))

pub AllPairs-range : (a n : ℕ) → AllPairs (λ j k. j < k) (range_with_len a n)
AllPairs-range a n i j d l h =
    omega (arith, l, h, length-range_with_len a n, get_or-range_with_len a n i d (omega (arith, h, l, length-range_with_len a n)), get_or-range_with_len a n j d (omega (arith, h, length-range_with_len a n)))

pub AllPairs-map : {X : Type 0} (f : ℕ → X) (R : X → X → Type 0) (ks : List ℕ) → AllPairs (λ j k. R (f j) (f k)) ks → AllPairs R (map f ks)
AllPairs-map f R ks all i j d l h =
    let short : j < length ks = omega (arith, h, length-map ks f) in
    let here = get_or-map f ks i 0 d (omega arith) in
    let there = get_or-map f ks j 0 d short in
    rw (here, there) (all i j 0 l short)
