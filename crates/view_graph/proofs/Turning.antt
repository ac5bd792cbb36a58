-- A circle that is turned to begin at its least view.
use Rattle.std.proofs.Common.{◌≡◌, ◌∙◌, ◌+◌, ◌-◌, ◌<◌, ◌≤◌, ◌⊎◌, inl, inr, ℕ, List, take, drop, length, get_or, ap, sym, subst, arith}
use Rattle.std.proofs.lemmas.List.{get_or_append_left, get_or-append_right, get_or-drop, get_or-take, get_or_default, length-drop, length-take-le, length-append}
use Rattle.std.proofs.lemmas.Bool.{cases_lt, cases_order}
use Rattle.view_graph.specs.Names.{AllDiffer}
use Rattle.view_graph.specs.Graphs.{IsClosed, IsCycle}
use Rattle.view_graph.specs.Circles.{IsBegunAtLeast}

module _ (R : ℕ → ℕ → Type 0) (views turned : List ℕ) (circle : IsClosed R views) (distinct : AllDiffer views) (begun : IsBegunAtLeast views turned) where
  length_drop : length (drop begun.at views) ≡ length views - begun.at
  length_drop = length-drop begun.at views

  length_turned : length turned ≡ length views
  length_turned =
      ap (λ (xs : List ℕ). length xs) begun.turn ∙ length-append (drop begun.at views) (take begun.at views)
      ∙ omega (arith, length_drop, length-take-le begun.at views (omega (arith, begun.within)), begun.within)

  -- where an element of the turned list stood
  abbrev Stood : ℕ → Type 0
  Stood k = (s : ℕ) × (s < length views) × ((d : ℕ) → get_or turned k d ≡ get_or views s 0) × ((begun.at + k ≡ s) ⊎ (begun.at + k ≡ s + length views))

  stood_by : (k : ℕ) → k < length views → (begun.at + k < length views) ⊎ (length views ≤ begun.at + k) → Stood k
  stood_by k within (inl before) = (
    begun.at + k,
    before,
    λ d. ap (λ (xs : List ℕ). get_or xs k d) begun.turn
        ∙ (get_or_append_left (drop begun.at views) (take begun.at views) d k (omega (arith, length_drop))
        ∙ (get_or-drop begun.at views k d ∙ get_or_default views (begun.at + k) d 0 before)),
    inl (omega arith),
  )
  stood_by k within (inr past) = (
    begun.at + k - length views,
    omega (arith, begun.within),
    λ d. ap (λ (xs : List ℕ). get_or xs k d) begun.turn
        ∙ (get_or-append_right (drop begun.at views) (take begun.at views) (length views - begun.at) k d length_drop (omega (arith, begun.within))
        ∙ (get_or-take begun.at views (k - (length views - begun.at)) d (omega (arith, begun.within))
        ∙ (ap (λ (i : ℕ). get_or views i d) (omega (arith, begun.within)) ∙ get_or_default views (begun.at + k - length views) d 0 (omega (arith, begun.within))))),
    inr (omega arith),
  )

  stood : (k : ℕ) → k < length views → Stood k
  stood k within = stood_by k within (cases_lt (begun.at + k) (length views))

  -- each uses the next around the circle
  around : (s t : ℕ) → s < length views → t < length views → (t ≡ s + 1) ⊎ ((s + 1 ≡ length views) × (t ≡ 0)) → R (get_or views s 0) (get_or views t 0)
  around s t within also (inl next) = subst (λ (i : ℕ). R (get_or views s 0) (get_or views i 0)) (sym next) (circle.each_uses_next s 0 (omega (arith, next)))
  around s t within also (inr end) =
      subst (λ (i : ℕ). R (get_or views i 0) (get_or views t 0)) (omega (arith, end.0))
      (subst (λ (i : ℕ). R (get_or views (length views - 1) 0) (get_or views i 0)) (sym end.1) circle.last_uses_first)

  steps : (k : ℕ) → (a : Stood k) (b : Stood (k + 1)) → (b.0 ≡ a.0 + 1) ⊎ ((a.0 + 1 ≡ length views) × (b.0 ≡ 0))
  steps k a b = by a.3 b.3
    where
      by : (begun.at + k ≡ a.0) ⊎ (begun.at + k ≡ a.0 + length views) → (begun.at + (k + 1) ≡ b.0) ⊎ (begun.at + (k + 1) ≡ b.0 + length views) → (b.0 ≡ a.0 + 1) ⊎ ((a.0 + 1 ≡ length views) × (b.0 ≡ 0))
      by (inl p) (inl q) = inl (omega (arith, p, q))
      by (inl p) (inr q) = inr (omega (arith, p, q, a.1), omega (arith, p, q, a.1))
      by (inr p) (inl q) = absurd (omega (arith, p, q, b.1))
      by (inr p) (inr q) = inl (omega (arith, p, q))

  related : (k l : ℕ) (d e : ℕ) (a : Stood k) (b : Stood l) → (b.0 ≡ a.0 + 1) ⊎ ((a.0 + 1 ≡ length views) × (b.0 ≡ 0)) → R (get_or turned k d) (get_or turned l e)
  related k l d e a b next =
      subst (λ (x : ℕ). R x (get_or turned l e)) (sym (a.2 d)) (subst (λ (y : ℕ). R (get_or views a.0 0) y) (sym (b.2 e)) (around a.0 b.0 a.1 b.1 next))

  ends : (a : Stood (length views - 1)) (b : Stood 0) → (b.0 ≡ a.0 + 1) ⊎ ((a.0 + 1 ≡ length views) × (b.0 ≡ 0))
  ends a b = by a.3 b.3
    where
      by : (begun.at + (length views - 1) ≡ a.0) ⊎ (begun.at + (length views - 1) ≡ a.0 + length views) → (begun.at + 0 ≡ b.0) ⊎ (begun.at + 0 ≡ b.0 + length views) → (b.0 ≡ a.0 + 1) ⊎ ((a.0 + 1 ≡ length views) × (b.0 ≡ 0))
      by (inl p) (inl q) = inr (omega (arith, p, q, a.1, begun.within), omega (arith, p, q, a.1, begun.within))
      by (inl p) (inr q) = absurd (omega (arith, q, begun.within))
      by (inr p) (inl q) = inl (omega (arith, p, q, begun.within))
      by (inr p) (inr q) = absurd (omega (arith, q, begun.within))

  apart : (i j : ℕ) → i < j → j < length views → (a : Stood i) (b : Stood j) → (d : ℕ) → get_or turned i d ≡ get_or turned j d → ⊥
  apart i j before within a b d same = by (cases_order a.0 b.0)
    where
      views_same : get_or views a.0 0 ≡ get_or views b.0 0
      views_same = sym (a.2 d) ∙ (same ∙ b.2 d)

      never : a.0 ≡ b.0 → (begun.at + i ≡ a.0) ⊎ (begun.at + i ≡ a.0 + length views) → (begun.at + j ≡ b.0) ⊎ (begun.at + j ≡ b.0 + length views) → ⊥
      never e (inl p) (inl q) = omega (arith, p, q, e, before)
      never e (inl p) (inr q) = omega (arith, p, q, e, before, within)
      never e (inr p) (inl q) = omega (arith, p, q, e, before, within)
      never e (inr p) (inr q) = omega (arith, p, q, e, before)

      by : (a.0 ≡ b.0) ⊎ ((a.0 < b.0) ⊎ (b.0 < a.0)) → ⊥
      by (inl e) = never e a.3 b.3
      by (inr (inl less)) = distinct a.0 b.0 0 less b.1 views_same
      by (inr (inr more)) = distinct b.0 a.0 0 more a.1 (sym views_same)

  first_is : (a : Stood 0) → get_or turned 0 0 ≡ get_or views begun.at 0
  first_is a = by a.3
    where
      by : (begun.at + 0 ≡ a.0) ⊎ (begun.at + 0 ≡ a.0 + length views) → get_or turned 0 0 ≡ get_or views begun.at 0
      by (inl p) = a.2 0 ∙ ap (λ (i : ℕ). get_or views i 0) (omega (arith, p))
      by (inr p) = absurd (omega (arith, p, begun.within))

  least : (k d : ℕ) (a : Stood k) → get_or turned 0 0 ≡ get_or views begun.at 0 → get_or turned 0 0 ≤ get_or turned k d
  least k d a first = let h : get_or views begun.at 0 ≤ get_or views a.0 0 = begun.least a.0 0 a.1 in omega (arith, h, first, a.2 d)

  -- the turned circle is a cycle
  pub IsCycle-turned : IsCycle R turned
  IsCycle-turned = record {
    closed = record {
      some = omega (arith, length_turned, circle.some);
      each_uses_next = λ k d below.
          let a = stood k (omega (arith, below, length_turned)) in
          let b = stood (k + 1) (omega (arith, below, length_turned)) in
          related k (k + 1) d d a b (steps k a b);
      last_uses_first =
          let a = stood (length views - 1) (omega (arith, circle.some)) in
          let b = stood 0 circle.some in
          subst (λ (n : ℕ). R (get_or turned (n - 1) 0) (get_or turned 0 0)) (sym length_turned) (related (length views - 1) 0 0 0 a b (ends a b));
    };
    distinct = λ i j d before within same. apart i j before (omega (arith, within, length_turned)) (stood i (omega (arith, before, within, length_turned))) (stood j (omega (arith, within, length_turned))) d same;
    begun_at_least = λ k d below. least k d (stood k (omega (arith, below, length_turned))) (first_is (stood 0 circle.some));
  }
