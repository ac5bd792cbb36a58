-- Lists of views in which one changes or one comes: their sums, what holds of each, and what holds of each two.
use Rattle.std.proofs.Common.{◌≡◌, ◌≢◌, ◌⊎◌, ℕ, zero, suc, ◌+◌, ◌<◌, ◌≤◌, List, [], ◌∷◌, ◌++◌, length, set, refl, sym, ap, ◌∙◌, subst, inl, inr, ⊎_elim, arith}
use Rattle.std.specs.List.{sum_by}
use Rattle.std.proofs.lemmas.List.Sums.{sum_by-cons}
use mathlib.Core.Option.{some, some-injective, some-ne-none}
use lib.ListN.{get_elem?}
use Rattle.atomic_table.proofs.Lists.{at_set, set_else}
use Rattle.run_tables.specs.declared.rule.View.{View}
use Rattle.run_tables.specs.Seats.{gone}
use Rattle.run_tables.specs.ClaimRule.{IsApart, AreApart}

pub sum_set : (f : View → ℕ) (views : List View) (j : ℕ) (v w : View) → get_elem? views j ≡ some v → sum_by f (set views j w) + f v ≡ sum_by f views + f w
sum_set f [] j v w e = absurd (some-ne-none v (sym e))
sum_set f (x ∷ xs) zero v w e =
    let same = ap f (some-injective x v e) in
    let new = sum_by-cons f w xs in
    let old = sum_by-cons f x xs in
    omega arith
sum_set f (x ∷ xs) (suc j) v w e =
    let rest = sum_set f xs j v w e in
    let new = sum_by-cons f x (set xs j w) in
    let old = sum_by-cons f x xs in
    omega arith

-- one is no more than all together
pub one-le-sum : (f : View → ℕ) (views : List View) (j : ℕ) (v : View) → get_elem? views j ≡ some v → f v ≤ sum_by f views
one-le-sum f [] j v e = absurd (some-ne-none v (sym e))
one-le-sum f (x ∷ xs) zero v e =
    let same = ap f (some-injective x v e) in
    let all = sum_by-cons f x xs in
    omega arith
one-le-sum f (x ∷ xs) (suc j) v e =
    let rest = one-le-sum f xs j v e in
    let all = sum_by-cons f x xs in
    omega arith

sum-zero : (f : View → ℕ) (views : List View) → ((j : ℕ) (v : View) → get_elem? views j ≡ some v → f v ≡ 0) → sum_by f views ≡ 0
sum-zero f [] each = refl
sum-zero f (x ∷ xs) each =
    let rest = sum-zero f xs (λ j v e. each (suc j) v e) in
    let first = each zero x refl in
    let all = sum_by-cons f x xs in
    omega arith

-- where one has it all, the others have nothing
pub others-zero : (f : View → ℕ) → f gone ≡ 0 → (views : List View) (i : ℕ) (v : View) → get_elem? views i ≡ some v → f v ≡ sum_by f views → (j : ℕ) (w : View) → j ≢ i → get_elem? views j ≡ some w → f w ≡ 0
others-zero f none views i v at all j w ne there =
    let without = sum_set f views i v gone at in
    let one = one-le-sum f (set views i gone) j w (set_else views i j gone ne ∙ there) in
    omega arith

-- where the others have nothing, one has it all
pub one-is-sum : (f : View → ℕ) → f gone ≡ 0 → (views : List View) (i : ℕ) (v : View) → get_elem? views i ≡ some v → ((j : ℕ) (w : View) → j ≢ i → get_elem? views j ≡ some w → f w ≡ 0) → f v ≡ sum_by f views
one-is-sum f none views i v at others =
    let without = sum_set f views i v gone at in
    let rest = sum-zero f (set views i gone) (λ j w e. ⊎_elim (λ (t : (j ≡ i) × (gone ≡ w)). sym (ap f t.1) ∙ none) (λ (t : (j ≢ i) × (get_elem? views j ≡ some w)). others j w t.0 t.1) (at_set views i j gone w e)) in
    omega arith

-- what holds of the new one and of each other one holds of each
pub each_set : (F : View → Type 0) (views : List View) (id : ℕ) (w : View) → ((j : ℕ) (u : View) → j ≢ id → get_elem? views j ≡ some u → F u) → F w → (j : ℕ) (u : View) → get_elem? (set views id w) j ≡ some u → F u
each_set F views id w others new j u at =
    ⊎_elim (λ (t : (j ≡ id) × (w ≡ u)). subst F t.1 new) (λ (t : (j ≢ id) × (get_elem? views j ≡ some u)). others j u t.0 t.1) (at_set views id j w u at)

at_push : (views : List View) (a b : View) (j : ℕ) → get_elem? (views ++ a ∷ []) j ≡ some b → (get_elem? views j ≡ some b) ⊎ ((j ≡ length views) × (a ≡ b))
at_push [] a b zero e = inr (refl, some-injective a b e)
at_push [] a b (suc j) e = absurd (some-ne-none b (sym e))
at_push (x ∷ xs) a b zero e = inl e
at_push (x ∷ xs) a b (suc j) e = ⊎_elim (λ t. inl t) (λ (t : (j ≡ length xs) × (a ≡ b)). inr (ap suc t.0, t.1)) (at_push xs a b j e)

pub each_push : (F : View → Type 0) (views : List View) (w : View) → ((j : ℕ) (u : View) → get_elem? views j ≡ some u → F u) → F w → (j : ℕ) (u : View) → get_elem? (views ++ w ∷ []) j ≡ some u → F u
each_push F views w old new j u at =
    ⊎_elim (λ t. old j u t) (λ (t : (j ≡ length views) × (w ≡ u)). subst F t.1 new) (at_push views w u j at)

-- two views are apart where both stand for some seat
abbrev pub Sit : View → View → Type 0
Sit v w = 0 < v.parts → 0 < w.parts → IsApart v w

pub apart_set : (views : List View) (id : ℕ) (w : View) → AreApart views → ((j : ℕ) (u : View) → j ≢ id → get_elem? views j ≡ some u → Sit w u × Sit u w) → AreApart (set views id w)
apart_set views id w all new i j u x ne at_i at_j =
    ⊎_elim
    (λ (a : (i ≡ id) × (w ≡ u)). ⊎_elim
    (λ (b : (j ≡ id) × (w ≡ x)). absurd (ne (a.0 ∙ sym b.0)))
    (λ (b : (j ≢ id) × (get_elem? views j ≡ some x)). subst (λ y. Sit y x) a.1 ((new j x b.0 b.1).0))
    (at_set views id j w x at_j))
    (λ (a : (i ≢ id) × (get_elem? views i ≡ some u)). ⊎_elim
    (λ (b : (j ≡ id) × (w ≡ x)). subst (λ y. Sit u y) b.1 ((new i u a.0 a.1).1))
    (λ (b : (j ≢ id) × (get_elem? views j ≡ some x)). all i j u x ne a.1 b.1)
    (at_set views id j w x at_j))
    (at_set views id i w u at_i)

pub apart_push : (views : List View) (w : View) → AreApart views → ((j : ℕ) (u : View) → get_elem? views j ≡ some u → Sit w u × Sit u w) → AreApart (views ++ w ∷ [])
apart_push views w all new i j u x ne at_i at_j =
    ⊎_elim
    (λ (a : get_elem? views i ≡ some u). ⊎_elim
    (λ (b : get_elem? views j ≡ some x). all i j u x ne a b)
    (λ (b : (j ≡ length views) × (w ≡ x)). subst (λ y. Sit u y) b.1 ((new i u a).1))
    (at_push views w x j at_j))
    (λ (a : (i ≡ length views) × (w ≡ u)). ⊎_elim
    (λ (b : get_elem? views j ≡ some x). subst (λ y. Sit y x) a.1 ((new j x b).0))
    (λ (b : (j ≡ length views) × (w ≡ x)). absurd (ne (a.0 ∙ sym b.0)))
    (at_push views w x j at_j))
    (at_push views w u i at_i)
