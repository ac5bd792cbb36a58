-- Numbers with ranks have one order by rank and then by number.
use Rattle.std.proofs.Common.{◌≡◌, ◌∙◌, ◌<◌, ◌≤◌, ◌⊎◌, inl, inr, ⊎_elim, ℕ, suc, List, [], ◌∷◌, length, Contains, All, AllPairs, refl, ap, sym, subst, arith}
use Rattle.std.specs.List.Sorted.{IsPermutation}
use Rattle.std.proofs.lemmas.Bool.{cases_lt, cases_order}
use Rattle.std.proofs.lemmas.List.Elements.{All-cons, All-head, All-tail, All-weaker, Contains-append_cases, Contains-append_right}
use Rattle.std.proofs.lemmas.List.Kept.{AllPairs-cons}
use Rattle.std.proofs.lemmas.List.Sorted.{All-permutation, Contains-permutation, IsPermutation-refl, IsPermutation-sym, IsPermutation-cons, IsPermutation-trans, IsPermutation-middle}
use Rattle.view_graph.specs.Names.{AllDiffer}
use Rattle.view_graph.specs.Graphs.{HasRank, ComesBefore, IsByRank}
use Rattle.view_graph.proofs.Once.{in_one, differ_permutation}

pairs_tail : {X : Type 0} (P : X → X → Type 0) (x : X) (xs : List X) → AllPairs P (x ∷ xs) → AllPairs P xs
pairs_tail P x xs h = λ i j d less within. h (suc i) (suc j) d (omega (arith, less)) (omega (arith, within))

pairs_head : {X : Type 0} (P : X → X → Type 0) (x : X) (xs : List X) → AllPairs P (x ∷ xs) → All (P x) xs
pairs_head P x xs h = λ k d below. h 0 (suc k) d (omega arith) (omega (arith, below))

-- what is in a list is its first or in its rest
pub first_or_rest : {X : Type 0} (x y : X) (xs : List X) → Contains (x ∷ xs) y → (x ≡ y) ⊎ Contains xs y
first_or_rest x y xs at = ⊎_elim (λ one. inl (in_one x y one)) inr (Contains-append_cases (x ∷ []) xs y at)

none_in : {X : Type 0} (x : X) → ¬ (Contains [] x)
none_in x at = omega (arith, at.1)

-- two lists of the same distinct numbers in an order that no two stand in both ways are one
pub one_list : (P : ℕ → ℕ → Type 0) → ((x y : ℕ) → P x y → P y x → x ≡ y) → (xs ys : List ℕ) → AllDiffer xs → AllDiffer ys → AllPairs P xs → AllPairs P ys
    → ((x : ℕ) → Contains xs x → Contains ys x) → ((x : ℕ) → Contains ys x → Contains xs x) → xs ≡ ys
one_list P one [] [] dx dy px py to from = refl
one_list P one [] (y ∷ ys) dx dy px py to from = absurd (none_in y (from y (0, omega arith, refl)))
one_list P one (x ∷ xs) [] dx dy px py to from = absurd (none_in x (to x (0, omega arith, refl)))
one_list P one (x ∷ xs) (y ∷ ys) dx dy px py to from =
    let heads : x ≡ y = by (first_or_rest y x ys (to x (0, omega arith, refl))) (first_or_rest x y xs (from y (0, omega arith, refl))) in
    ap (λ z. z ∷ xs) heads ∙ ap (λ zs. y ∷ zs) (one_list P one xs ys (pairs_tail (λ a b. ¬ (a ≡ b)) x xs dx) (pairs_tail (λ a b. ¬ (a ≡ b)) y ys dy) (pairs_tail P x xs px) (pairs_tail P y ys py)
    (λ z at. rest x y xs ys dx heads z at (first_or_rest y z ys (to z (Contains-append_right (x ∷ []) xs z at))))
    (λ z at. rest y x ys xs dy (sym heads) z at (first_or_rest x z xs (from z (Contains-append_right (y ∷ []) ys z at)))))
  where
    in_rest : (v w : ℕ) (ws : List ℕ) → All (P w) ws → Contains ws v → P w v
    in_rest v w ws all at = subst (λ (u : ℕ). P w u) at.2 (all at.0 v at.1)

    by : (y ≡ x) ⊎ Contains ys x → (x ≡ y) ⊎ Contains xs y → x ≡ y
    by (inl is) second = sym is
    by (inr at) (inl is) = is
    by (inr at) (inr in') = one x y (in_rest y x xs (pairs_head P x xs px) in') (in_rest x y ys (pairs_head P y ys py) at)

    rest : (v w : ℕ) (vs ws : List ℕ) → AllDiffer (v ∷ vs) → v ≡ w → (z : ℕ) → Contains vs z → (w ≡ z) ⊎ Contains ws z → Contains ws z
    rest v w vs ws differ is z at (inr found) = found
    rest v w vs ws differ is z at (inl same) = absurd (differ 0 (suc at.0) z (omega arith) (omega (arith, at.1)) (is ∙ same ∙ sym at.2))

module _ (R : ℕ → ℕ → Type 0) where
  abbrev Ranked : ℕ → Type 0
  Ranked v = (rank : ℕ) × HasRank R v rank

  same_rank : (v a b : ℕ) → HasRank R v a → HasRank R v b → a ≡ b
  same_rank v a b h k =
      let up : length h.chain ≤ b = k.longest h.chain h.below in
      let down : length k.chain ≤ a = h.longest k.chain k.below in
      omega (arith, up, down, h.length_is, k.length_is)

  -- no two come before each other
  both_ways : (x y : ℕ) → ComesBefore R x y → ComesBefore R y x → x ≡ y
  both_ways x y h k =
      let a = same_rank x h.rank k.other_rank h.ranked k.other_ranked in
      let b = same_rank y h.other_rank k.rank h.other_ranked k.ranked in
      ⊎_elim
      (λ less. ⊎_elim (λ more. omega (arith, a, b, less, more)) (λ same. omega (arith, a, b, less, same.0)) k.in_order)
      (λ same. ⊎_elim (λ more. omega (arith, a, b, same.0, more)) (λ too. omega (arith, same.1, too.1)) k.in_order)
      h.in_order

  before_trans : (x y z : ℕ) → ComesBefore R x y → ComesBefore R y z → ComesBefore R x z
  before_trans x y z h k = record {
    rank = h.rank;
    other_rank = k.other_rank;
    ranked = h.ranked;
    other_ranked = k.other_ranked;
    in_order =
        let middle = same_rank y h.other_rank k.rank h.other_ranked k.ranked in
        ⊎_elim
        (λ less. ⊎_elim (λ more. inl (omega (arith, middle, less, more))) (λ same. inl (omega (arith, middle, less, same.0))) k.in_order)
        (λ same. ⊎_elim (λ more. inl (omega (arith, middle, same.0, more))) (λ too. inr (omega (arith, middle, same.0, too.0), omega (arith, same.1, too.1))) k.in_order)
        h.in_order;
  }

  one_before : (x y : ℕ) → Ranked x → Ranked y → ComesBefore R x y ⊎ ComesBefore R y x
  one_before x y a b = by (cases_order a.0 b.0) (cases_lt y x)
    where
      to : (a.0 < b.0) ⊎ ((a.0 ≡ b.0) × (x ≤ y)) → ComesBefore R x y
      to h = record { rank = a.0; other_rank = b.0; ranked = a.1; other_ranked = b.1; in_order = h }

      from : (b.0 < a.0) ⊎ ((b.0 ≡ a.0) × (y ≤ x)) → ComesBefore R y x
      from h = record { rank = b.0; other_rank = a.0; ranked = b.1; other_ranked = a.1; in_order = h }

      by : (a.0 ≡ b.0) ⊎ ((a.0 < b.0) ⊎ (b.0 < a.0)) → (y < x) ⊎ (x ≤ y) → ComesBefore R x y ⊎ ComesBefore R y x
      by (inr (inl less)) second = inl (to (inl less))
      by (inr (inr more)) second = inr (from (inl more))
      by (inl same) (inl above) = inr (from (inr (sym same, omega (arith, above))))
      by (inl same) (inr below) = inl (to (inr (same, below)))

  -- a number put where it belongs
  put : (v : ℕ) (xs : List ℕ) → Ranked v → All Ranked xs → AllPairs (ComesBefore R) xs → (ys : List ℕ) × IsPermutation (v ∷ xs) ys × AllPairs (ComesBefore R) ys
  put v [] rank ranked order = (v ∷ [], IsPermutation-refl (v ∷ []), λ i j d less within. absurd (omega (arith, less, within)))
  put v (x ∷ xs) rank ranked order = by (one_before v x rank (All-head Ranked x xs ranked)) (put v xs rank (All-tail Ranked x xs ranked) (pairs_tail (ComesBefore R) x xs order))
    where
      after : All (ComesBefore R x) xs
      after = pairs_head (ComesBefore R) x xs order

      by : ComesBefore R v x ⊎ ComesBefore R x v → (ys : List ℕ) × IsPermutation (v ∷ xs) ys × AllPairs (ComesBefore R) ys
          → (ys : List ℕ) × IsPermutation (v ∷ x ∷ xs) ys × AllPairs (ComesBefore R) ys
      by (inl first) rest = (
        v ∷ x ∷ xs,
        IsPermutation-refl (v ∷ x ∷ xs),
        AllPairs-cons (ComesBefore R) v (x ∷ xs) (All-cons (ComesBefore R v) x xs first (All-weaker (ComesBefore R x) (ComesBefore R v) (λ y h. before_trans v x y first h) xs after)) order,
      )
      by (inr later) rest = (
        x ∷ rest.0,
        IsPermutation-trans (v ∷ x ∷ xs) (x ∷ v ∷ xs) (x ∷ rest.0) (IsPermutation-sym (x ∷ v ∷ xs) (v ∷ x ∷ xs) (IsPermutation-middle (x ∷ []) v xs)) (IsPermutation-cons x (v ∷ xs) rest.0 rest.1),
        AllPairs-cons (ComesBefore R) x rest.0 (All-permutation (ComesBefore R x) (v ∷ xs) rest.0 rest.1 (All-cons (ComesBefore R x) v xs later after)) rest.2,
      )

  -- numbers with ranks can be put in order
  pub put_in_order : (xs : List ℕ) → All Ranked xs → (order : List ℕ) × IsByRank R xs order
  put_in_order [] ranked = ([], record { each_once = IsPermutation-refl []; ranked = ranked; in_order = λ i j d less within. absurd (omega (arith, within)) })
  put_in_order (x ∷ xs) ranked =
      let rest = put_in_order xs (All-tail Ranked x xs ranked) in
      let all = put x rest.0 (All-head Ranked x xs ranked) rest.1.ranked rest.1.in_order in
      let moved : IsPermutation (x ∷ xs) all.0 = IsPermutation-trans (x ∷ xs) (x ∷ rest.0) all.0 (IsPermutation-cons x xs rest.0 rest.1.each_once) all.1 in
      (all.0, record { each_once = moved; ranked = All-permutation Ranked (x ∷ xs) all.0 moved ranked; in_order = all.2 })

  -- and in one way
  pub one_by_rank : (views xs ys : List ℕ) → AllDiffer views → IsByRank R views xs → IsByRank R views ys → xs ≡ ys
  one_by_rank views xs ys differ h k =
      one_list (ComesBefore R) both_ways xs ys (differ_permutation views xs h.each_once differ) (differ_permutation views ys k.each_once differ) h.in_order k.in_order
      (λ x at. Contains-permutation views ys x k.each_once (Contains-permutation xs views x (IsPermutation-sym views xs h.each_once) at))
      (λ x at. Contains-permutation views xs x h.each_once (Contains-permutation ys views x (IsPermutation-sym views ys k.each_once) at))
