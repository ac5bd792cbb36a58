-- A list put in order keeps the order of values that tie.
use Rattle.std.proofs.Common.{◌≡◌, Bool, true, false, not, cond, List, [], ◌∷◌, filter, refl, sym, ap, ◌∙◌, true≢false}
use Rattle.std.specs.Cmp.{IsTotalOrder, IsStrictWeakOrder}
use Rattle.std.specs.List.Sorted.{IsStable, ties}
use Rattle.std.specs.Ordering.{is_lt}
use Rattle.std.specs.declared.cmp.Ordering.{Ordering}
use Rattle.std.proofs.lemmas.Bool.{and_parts, not-true}
use Rattle.std.proofs.lemmas.List.Sorted.{ranks_by}
use Rattle.aql_base.specs.Sorting.{put_in_order, sorted_by}

module _ {X : Type 0} {cmp : X → X → Ordering} (order : IsTotalOrder cmp) where
  abbrev less : X → X → Bool
  less x y = is_lt (cmp x y)

  ranks : IsStrictWeakOrder (λ x y. is_lt (cmp x y))
  ranks = ranks_by order (λ (x : X). x)

  -- of two values that tie with one value none is less
  not_less : (x y z : X) → ties less x z ≡ true → ties less x y ≡ true → is_lt (cmp z y) ≡ true → ⊥
  not_less x y z of_z of_y h =
      let a = and_parts (not (less x z)) (not (less z x)) of_z in
      let b = and_parts (not (less x y)) (not (less y x)) of_y in
      true≢false (sym h ∙ ranks.chain z x y (not-true (less z x) a.1) (not-true (less x y) b.0))

  exchanged : (b c : Bool) (y z : X) (rest : List X) → (b ≡ true → c ≡ true → ⊥) → cond b (z ∷ cond c (y ∷ rest) rest) (cond c (y ∷ rest) rest) ≡ cond c (y ∷ cond b (z ∷ rest) rest) (cond b (z ∷ rest) rest)
  exchanged true true y z rest h = absurd (h refl refl)
  exchanged true false y z rest h = refl
  exchanged false true y z rest h = refl
  exchanged false false y z rest h = refl

  put_keeps : (x y : X) (ys : List X) → filter (ties less x) (put_in_order cmp y ys) ≡ filter (ties less x) (y ∷ ys)
  unfolding put_in_order
  put_keeps x y [] = refl
  put_keeps x y (z ∷ zs) = by (is_lt (cmp z y)) refl (put_keeps x y zs)
    where
      by : (b : Bool) → is_lt (cmp z y) ≡ b → filter (ties less x) (put_in_order cmp y zs) ≡ filter (ties less x) (y ∷ zs)
          → filter (ties less x) (cond b (z ∷ put_in_order cmp y zs) (y ∷ z ∷ zs)) ≡ filter (ties less x) (y ∷ z ∷ zs)
      by true e later = ap (λ rest. cond (ties less x z) (z ∷ rest) rest) later ∙ exchanged (ties less x z) (ties less x y) y z (filter (ties less x) zs) (λ of_z of_y. not_less x y z of_z of_y e)
      by false e later = refl

  pub IsStable-sorted_by : (xs : List X) → IsStable cmp xs (sorted_by cmp xs)
  unfolding sorted_by
  IsStable-sorted_by [] x = refl
  IsStable-sorted_by (y ∷ ys) x = put_keeps x y (sorted_by cmp ys) ∙ ap (λ rest. cond (ties less x y) (y ∷ rest) rest) (IsStable-sorted_by ys x)
