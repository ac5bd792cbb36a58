-- One element more in a list in order.
use Rattle.std.proofs.Common.{◌≡◌, ◌∙◌, ◌≤◌, ◌+◌, ℕ, suc, Bool, true, false, cond, if◌then◌else◌, List, [], ◌∷◌, ◌++◌, length, refl, ap, sym, arith}
use Rattle.std.specs.List.{prefix_len, insert}
use Rattle.std.specs.Ordering.{is_lt}
use Rattle.std.specs.declared.cmp.Ordering.{Ordering}
use Rattle.aql_base.specs.Sorting.{put_in_order, sorted_by}

at_front : {X : Type 0} (b : Bool) (n : ℕ) (x y : X) (ys rest : List X) → rest ≡ insert ys n x
    → (if b then y ∷ rest else x ∷ y ∷ ys) ≡ insert (y ∷ ys) (cond b (1 + n) 0) x
at_front true n x y ys rest is =
    let one : 1 + n ≡ suc n = omega arith in
    ap (λ zs. y ∷ zs) is ∙ ap (λ (m : ℕ). insert (y ∷ ys) m x) (sym one)
at_front false n x y ys rest is = refl

pub put_is : {X : Type 0} (cmp : X → X → Ordering) (x : X) (ys : List X) → put_in_order cmp x ys ≡ insert ys (prefix_len (λ y. is_lt (cmp y x)) ys) x
unfolding put_in_order
put_is cmp x [] = refl
put_is cmp x (y ∷ ys) = at_front (is_lt (cmp y x)) (prefix_len (λ z. is_lt (cmp z x)) ys) x y ys (put_in_order cmp x ys) (put_is cmp x ys)

pub prefix_within : {X : Type 0} (p : X → Bool) (xs : List X) → prefix_len p xs ≤ length xs
prefix_within p [] = omega arith
prefix_within p (x ∷ xs) = within_more (p x) (prefix_len p xs) (length xs) (prefix_within p xs)
  where
    within_more : (b : Bool) (n m : ℕ) → n ≤ m → cond b (1 + n) 0 ≤ suc m
    within_more true n m h = omega (arith, h)
    within_more false n m h = omega arith

-- elements put one by one, the last first, into a list in order
abbrev pub put_all : {X : Type 0} → (X → X → Ordering) → List X → List X → List X
put_all cmp [] sorted = sorted
put_all cmp (x ∷ xs) sorted = put_in_order cmp x (put_all cmp xs sorted)

pub put_last : {X : Type 0} (cmp : X → X → Ordering) (xs : List X) (x : X) (sorted : List X) → put_all cmp (xs ++ x ∷ []) sorted ≡ put_all cmp xs (put_in_order cmp x sorted)
put_last cmp [] x sorted = refl
put_last cmp (y ∷ xs) x sorted = ap (put_in_order cmp y) (put_last cmp xs x sorted)

pub sorted_is : {X : Type 0} (cmp : X → X → Ordering) (xs : List X) → put_all cmp xs [] ≡ sorted_by cmp xs
unfolding sorted_by
sorted_is cmp [] = refl
sorted_is cmp (x ∷ xs) = ap (put_in_order cmp x) (sorted_is cmp xs)
