-- The tests of the rules decide the rules that they are named after.
use Rattle.std.proofs.Common.{◌≡◌, ℕ, zero, suc, ◌+◌, ◌<◌, ◌⊎◌, inl, inr, ◌↔◌, Bool, true, false, not, ◌&&◌, ◌||◌, nat_le, nat_lt, List, [], ◌∷◌, length, get_or, refl, sym, ap, subst, ◌∙◌, arith, Option, Some, None, Contains, true≢false}
use Rattle.std.specs.Prelude.{◌==◌}
use Rattle.std.specs.List.{list_any}
use Rattle.std.proofs.lemmas.Bool.{and_from, and_parts, leb-true, le-leb, ltb-true, lt-ltb, eqb-true, eq-eqb}
use Rattle.std.proofs.lemmas.List.Folds.{Any-from_list_any, list_any_at}
use Rattle.span_token.specs.Extents.{Extent}
use Rattle.span_token.specs.Relations.{Overlaps, ContainsExtent, do_overlap, does_contain}
use Rattle.span_token.specs.ExtentLaws.{same_extent}
use Rattle.span_sets.specs.Consolidation.{HasTarget, IsOutermost, IsInnermost, IsFirstOfEqual, ComesBefore, IsFree, Allows, Stays}
use Rattle.span_sets.specs.KeptRows.{each_passes, are_same, is_outermost, is_innermost, is_first_of_equal, does_come_before, is_free, does_allow, does_stay}
use Rattle.span_sets.specs.declared.policy.Policy.{Policy}
use Rattle.span_sets.specs.declared.policy.Policy.TheVariants.{ContainedWithin, NotContainedWithin, ContainsButNotEqual, ExactMatch, LeftToRight}

-- the test b decides P
abbrev pub Decides : Bool → Type 0 → Type 0
Decides b P = (b ≡ true) ↔ P

pub and_ : (a b : Bool) (A B : Type 0) → Decides a A → Decides b B → Decides (a && b) (A × B)
and_ a b A B h k = (λ e. let parts = and_parts a b e in (h.0 parts.0, k.0 parts.1), λ both. and_from a b (h.1 both.0) (k.1 both.1))

pub or_ : (a b : Bool) (A B : Type 0) → Decides a A → Decides b B → Decides (a || b) (A ⊎ B)
or_ true b A B h k = (λ e. inl (h.0 refl), λ o. refl)
or_ false b A B h k = (λ e. inr (k.0 e), λ o. elim o [ inl x ↦ absurd (true≢false (sym (h.1 x))) | inr y ↦ k.1 y ])

pub not_ : (a : Bool) (A : Type 0) → Decides a A → Decides (not a) (A → ⊥)
not_ true A h = (λ e. absurd (true≢false (sym e)), λ n. absurd (n (h.0 refl)))
not_ false A h = (λ e x. true≢false (sym (h.1 x)), λ n. refl)

pub if_ : (a b : Bool) (A B : Type 0) → Decides a A → Decides b B → Decides (not a || b) (A → B)
if_ true b A B h k = (λ e x. k.0 e, λ f. k.1 (f (h.0 refl)))
if_ false b A B h k = (λ e x. absurd (true≢false (sym (h.1 x))), λ f. refl)

lt_ : (m n : ℕ) → Decides (nat_lt m n) (m < n)
lt_ m n = (ltb-true m n, lt-ltb m n)

eq_ : (m n : ℕ) → Decides (m == n) (m ≡ n)
eq_ m n = (eqb-true m n, eq-eqb m n)

pub are_same-decides : (u t : Extent) → Decides (are_same u t) (u ≡ t)
are_same-decides u t = (
  λ e. let parts = and_parts (u.begin == t.begin) (u.end == t.end) e in same_extent u t (eqb-true u.begin t.begin parts.0) (eqb-true u.end t.end parts.1),
  λ h. and_from (u.begin == t.begin) (u.end == t.end) (eq-eqb u.begin t.begin (ap (λ (x : Extent). x.begin) h)) (eq-eqb u.end t.end (ap (λ (x : Extent). x.end) h)),
)

pub does_contain-decides : (a b : Extent) → Decides (does_contain a b) (ContainsExtent a b)
does_contain-decides a b = (
  λ e. let parts = and_parts (nat_le a.begin b.begin) (nat_le b.end a.end) e in record { begins = leb-true a.begin b.begin parts.0; ends = leb-true b.end a.end parts.1 },
  λ h. and_from (nat_le a.begin b.begin) (nat_le b.end a.end) (le-leb a.begin b.begin h.begins) (le-leb b.end a.end h.ends),
)

pub do_overlap-decides : (a b : Extent) → Decides (do_overlap a b) (Overlaps a b)
do_overlap-decides a b =
    or_ (nat_lt a.begin b.end && nat_lt b.begin a.end) (are_same a b) ((a.begin < b.end) × (b.begin < a.end)) (a ≡ b)
    (and_ (nat_lt a.begin b.end) (nat_lt b.begin a.end) (a.begin < b.end) (b.begin < a.end) (lt_ a.begin b.end) (lt_ b.begin a.end)) (are_same-decides a b)

does_come_before-decides : (j : ℕ) (u : Extent) (i : ℕ) (t : Extent) → Decides (does_come_before j u i t) (ComesBefore j u i t)
does_come_before-decides j u i t =
    or_ (nat_lt u.begin t.begin) _ (u.begin < t.begin) _ (lt_ u.begin t.begin)
    (and_ (u.begin == t.begin) _ (u.begin ≡ t.begin) _ (eq_ u.begin t.begin)
    (or_ (nat_lt t.end u.end) _ (t.end < u.end) _ (lt_ t.end u.end)
    (and_ (u.end == t.end) (nat_lt j i) (u.end ≡ t.end) (j < i) (eq_ u.end t.end) (lt_ j i))))

is_among-decides : (kept : List ℕ) (j : ℕ) → Decides (list_any (λ k. k == j) kept) (Contains kept j)
is_among-decides kept j = (
  λ e. let at = Any-from_list_any (λ k. k == j) kept e in subst (λ n. Contains kept n) (eqb-true at.1 j at.4) (at.0, at.2, at.3),
  λ at. list_any_at (λ k. k == j) kept at.0 j at.1 (eq-eqb (get_or kept at.0 j) j at.2),
)

none_some : (t : Extent) → ◌≡◌ {A = Option Extent} None (Some t) → ⊥
none_some t e = cc

pub some_is : (t u : Extent) → ◌≡◌ {A = Option Extent} (Some t) (Some u) → t ≡ u
some_is t u e = cc

each_from : (passes : ℕ → Extent → Bool) (i : ℕ) (targets : List (Option Extent)) → each_passes passes i targets ≡ true → (j : ℕ) (u : Extent) → HasTarget targets j u → passes (i + j) u ≡ true
each_from passes i [] e j u has = absurd (none_some u has)
each_from passes i (None ∷ targets) e zero u has = absurd (none_some u has)
each_from passes i (None ∷ targets) e (suc j) u has = let next : suc i + j ≡ i + suc j = omega arith in subst (λ n. passes n u ≡ true) next (each_from passes (suc i) targets e j u has)
each_from passes i (Some t ∷ targets) e zero u has =
    let here : i ≡ i + 0 = omega arith in
    subst (λ v. passes (i + 0) v ≡ true) (some_is t u has) (subst (λ n. passes n t ≡ true) here (and_parts (passes i t) (each_passes passes (suc i) targets) e).0)
each_from passes i (Some t ∷ targets) e (suc j) u has =
    let next : suc i + j ≡ i + suc j = omega arith in
    subst (λ n. passes n u ≡ true) next (each_from passes (suc i) targets (and_parts (passes i t) (each_passes passes (suc i) targets) e).1 j u has)

from_each : (passes : ℕ → Extent → Bool) (i : ℕ) (targets : List (Option Extent)) → ((j : ℕ) (u : Extent) → HasTarget targets j u → passes (i + j) u ≡ true) → each_passes passes i targets ≡ true
from_each passes i [] h = refl
from_each passes i (None ∷ targets) h = from_each passes (suc i) targets (λ j u has. let next : i + suc j ≡ suc i + j = omega arith in subst (λ n. passes n u ≡ true) next (h (suc j) u has))
from_each passes i (Some t ∷ targets) h =
    let here : i + 0 ≡ i = omega arith in
    and_from (passes i t) (each_passes passes (suc i) targets) (subst (λ n. passes n t ≡ true) here (h 0 t refl))
    (from_each passes (suc i) targets (λ j u has. let next : i + suc j ≡ suc i + j = omega arith in subst (λ n. passes n u ≡ true) next (h (suc j) u has)))

each_decides : (targets : List (Option Extent)) (passes : ℕ → Extent → Bool) (P : ℕ → Extent → Type 0) → ((j : ℕ) (u : Extent) → Decides (passes j u) (P j u)) → Decides (each_passes passes 0 targets) ((j : ℕ) (u : Extent) → HasTarget targets j u → P j u)
each_decides targets passes P decides = (
  λ e j u has. let here : 0 + j ≡ j = omega arith in (decides j u).0 (subst (λ n. passes n u ≡ true) here (each_from passes 0 targets e j u has)),
  λ h. from_each passes 0 targets (λ j u has. let here : j ≡ 0 + j = omega arith in subst (λ n. passes n u ≡ true) here ((decides j u).1 (h j u has))),
)

is_outermost-decides : (targets : List (Option Extent)) (t : Extent) → Decides (is_outermost targets t) (IsOutermost targets t)
is_outermost-decides targets t = each_decides targets (λ j u. not (does_contain u t) || are_same u t) (λ j u. ContainsExtent u t → u ≡ t)
    (λ j u. if_ (does_contain u t) (are_same u t) (ContainsExtent u t) (u ≡ t) (does_contain-decides u t) (are_same-decides u t))

is_innermost-decides : (targets : List (Option Extent)) (t : Extent) → Decides (is_innermost targets t) (IsInnermost targets t)
is_innermost-decides targets t = each_decides targets (λ j u. not (does_contain t u) || are_same u t) (λ j u. ContainsExtent t u → u ≡ t)
    (λ j u. if_ (does_contain t u) (are_same u t) (ContainsExtent t u) (u ≡ t) (does_contain-decides t u) (are_same-decides u t))

is_first_of_equal-decides : (targets : List (Option Extent)) (i : ℕ) (t : Extent) → Decides (is_first_of_equal targets i t) (IsFirstOfEqual targets i t)
is_first_of_equal-decides targets i t =
    let each = each_decides targets (λ j u. not (nat_lt j i && are_same u t)) (λ j u. (j < i) × (u ≡ t) → ⊥)
    (λ j u. not_ (nat_lt j i && are_same u t) ((j < i) × (u ≡ t)) (and_ (nat_lt j i) (are_same u t) (j < i) (u ≡ t) (lt_ j i) (are_same-decides u t))) in (
      λ e j low has. each.0 e j t has (low, refl),
      λ first. each.1 (λ j u has both. first j both.0 (has ∙ ap Some both.1)),
    )

is_free-decides : (targets : List (Option Extent)) (kept : List ℕ) (i : ℕ) (t : Extent) → Decides (is_free targets kept i t) (IsFree targets kept i t)
is_free-decides targets kept i t =
    let each = each_decides targets (λ j u. not (list_any (λ k. k == j) kept && (does_come_before j u i t && do_overlap u t))) (λ j u. Contains kept j × (ComesBefore j u i t × Overlaps u t) → ⊥)
    (λ j u. not_ (list_any (λ k. k == j) kept && (does_come_before j u i t && do_overlap u t)) (Contains kept j × (ComesBefore j u i t × Overlaps u t))
    (and_ (list_any (λ k. k == j) kept) (does_come_before j u i t && do_overlap u t) (Contains kept j) (ComesBefore j u i t × Overlaps u t) (is_among-decides kept j)
    (and_ (does_come_before j u i t) (do_overlap u t) (ComesBefore j u i t) (Overlaps u t) (does_come_before-decides j u i t) (do_overlap-decides u t)))) in (
      λ e j u stays has comes over. each.0 e j u has (stays, (comes, over)),
      λ free. each.1 (λ j u has all. free j u all.0 has all.1.0 all.1.1),
    )

does_allow-decides : (policy : Policy) (targets : List (Option Extent)) (kept : List ℕ) (i : ℕ) (t : Extent) → Decides (does_allow policy targets kept i t) (Allows policy targets kept i t)
does_allow-decides ContainedWithin targets kept i t = and_ (is_outermost targets t) (is_first_of_equal targets i t) (IsOutermost targets t) (IsFirstOfEqual targets i t) (is_outermost-decides targets t) (is_first_of_equal-decides targets i t)
does_allow-decides ContainsButNotEqual targets kept i t = is_outermost-decides targets t
does_allow-decides NotContainedWithin targets kept i t = and_ (is_innermost targets t) (is_first_of_equal targets i t) (IsInnermost targets t) (IsFirstOfEqual targets i t) (is_innermost-decides targets t) (is_first_of_equal-decides targets i t)
does_allow-decides ExactMatch targets kept i t = is_first_of_equal-decides targets i t
does_allow-decides LeftToRight targets kept i t = is_free-decides targets kept i t

pub does_stay-decides : (policy : Policy) (targets : List (Option Extent)) (kept : List ℕ) (i : ℕ) → i < length targets → Decides (does_stay policy targets kept i (get_or targets i None)) (Stays policy targets kept i)
does_stay-decides policy targets kept i short = by (get_or targets i None) refl
  where
    by : (o : Option Extent) → get_or targets i None ≡ o → Decides (does_stay policy targets kept i o) (Stays policy targets kept i)
    by None e = (λ yes. record { there = short; allowed = λ t has. absurd (none_some t (sym e ∙ has)) }, λ stays. refl)
    by (Some u) e = (
      λ yes. record { there = short; allowed = λ t has. subst (λ v. Allows policy targets kept i v) (some_is u t (sym e ∙ has)) ((does_allow-decides policy targets kept i u).0 yes) },
      λ stays. (does_allow-decides policy targets kept i u).1 (stays.allowed u e),
    )
