-- Sorted candidates: what a sweep over them has to look at.
use Rattle.std.proofs.Common.{◌≡◌, ℕ, ◌+◌, ◌<◌, ◌≤◌, ◌⊎◌, inl, inr, Bool, true, false, List, [], ◌∷◌, ◌++◌, length, get_or, refl, sym, ap, ◌∙◌, subst, arith, ◌↔◌, length-append, true≢false, leb, max}
use Rattle.std.proofs.lemmas.Bool.{cases_lt, leb-true, le-leb}
use Rattle.std.proofs.lemmas.List.{get_or_append_left}
use Rattle.std.proofs.Math.Seq.{get_or-append_seam}
use Rattle.span_token.specs.Extents.{Extent}
use Rattle.span_token.specs.Relations.{Overlaps}
use Rattle.span_token.specs.ExtentLaws.{same_extent}
use Rattle.span_sets.specs.Candidates.{near_of, far_of, row_number_of, extent_at, AreSorted, AreAlike, IsNew, IsUncovered, IsClear}
use Rattle.span_sets.specs.declared.candidate.Candidate.{Candidate}

-- one candidate's ends and row number come before another's
abbrev pub IsLess : List Candidate → ℕ → ℕ → Type 0
IsLess sorted j k = (near_of sorted j < near_of sorted k) ⊎ ((near_of sorted j ≡ near_of sorted k) × ((far_of sorted k < far_of sorted j) ⊎ ((far_of sorted j ≡ far_of sorted k) × (row_number_of sorted j < row_number_of sorted k))))

module _ (sorted : List Candidate) where
  abbrev pub itself : (j k : ℕ) → j ≡ k → (near_of sorted j ≡ near_of sorted k) × (far_of sorted j ≡ far_of sorted k) × (row_number_of sorted j ≡ row_number_of sorted k)
  itself j k e = (ap (near_of sorted) e, ap (far_of sorted) e, ap (row_number_of sorted) e)

  not_itself : (j k : ℕ) → j ≡ k → IsLess sorted j k → ⊥
  not_itself j k e less = omega (arith, less, ap (near_of sorted) e, ap (far_of sorted) e, ap (row_number_of sorted) e)

  asym : (j k : ℕ) → IsLess sorted j k → IsLess sorted k j → ⊥
  asym j k less more = omega (arith, less, more)

module _ (sorted : List Candidate) (up : AreSorted sorted) where
  -- what comes before by its ends and row number has the lesser number
  pub before : (j k : ℕ) → j < length sorted → k < length sorted → IsLess sorted j k → j < k
  before j k in_j in_k less =
      elim (cases_lt j k) [
        | inl h ↦ h
        | inr h ↦ elim (cases_lt k j) [
          | inl g ↦ absurd (asym sorted j k less (up k j g in_j))
          | inr g ↦ absurd (not_itself sorted j k (omega arith) less)
        ]
      ]

  -- candidates with one span stand together
  pub alike_between : (j p k : ℕ) → j ≤ p → p < k → k < length sorted → AreAlike sorted j k → AreAlike sorted p k
  alike_between j p k low high short alike =
      elim (cases_lt j p) [
        | inl h ↦ let a = up j p h (omega arith) in let b = up p k high short in (omega (arith, a, b, alike), omega (arith, a, b, alike))
        | inr h ↦ let e : j ≡ p = omega arith in subst (λ n. AreAlike sorted n k) e alike
      ]

  -- so it is enough to look at the one before
  pub IsNew-next : (p k : ℕ) → p + 1 ≡ k → k < length sorted → IsNew sorted k ↔ (¬ (AreAlike sorted p k))
  IsNew-next p k e short = (λ new. new p (omega arith), λ other j h alike. other (alike_between j p k (omega arith) (omega arith) short alike))

  pub IsNew-first : (k : ℕ) → k ≡ 0 → IsNew sorted k
  IsNew-first k e = λ j h. absurd (omega arith)

  -- candidates with one span are covered alike
  pub IsUncovered-alike : (p k : ℕ) → p + 1 ≡ k → k < length sorted → AreAlike sorted p k → IsUncovered sorted p ↔ IsUncovered sorted k
  IsUncovered-alike p k e short alike = (
    (λ open' j h reach. elim (cases_lt j p) [
      | inl g ↦ let a = open' j g (omega (arith, alike, reach)) in (omega (arith, a, alike), omega (arith, a, alike))
      | inr g ↦ let same : j ≡ p = omega arith in subst (λ n. AreAlike sorted n k) (sym same) alike
    ]),
    (λ open' j h reach. let a = open' j (omega arith) (omega (arith, alike, reach)) in (omega (arith, a, alike), omega (arith, a, alike))),
  )

  -- and of others it is enough to know how far those before reach
  pub IsUncovered-new : (k past : ℕ) → k < length sorted → IsNew sorted k → ((j : ℕ) → j < k → far_of sorted j < past) → ((n : ℕ) → ((j : ℕ) → j < k → far_of sorted j < n) → past ≤ n) → IsUncovered sorted k ↔ (past ≤ far_of sorted k)
  IsUncovered-new k past short new above least = (
    (λ open'. least (far_of sorted k) (λ j h. elim (cases_lt (far_of sorted j) (far_of sorted k)) [ inl g ↦ g | inr g ↦ absurd (new j h (open' j h g)) ])),
    (λ le j h reach. absurd (omega (arith, above j h, le, reach))),
  )

  -- a candidate is clear of all that stay where it is clear of the farthest and of the last one
  pub IsClear-two : (answers : List Bool) (ordered : (j : ℕ) → j < length sorted → near_of sorted j ≤ far_of sorted j) (k farthest last : ℕ) → k < length sorted
      → ((j : ℕ) → j < k → (get_or answers j false ≡ true) ↔ IsClear sorted answers j)
      → farthest < k → get_or answers farthest false ≡ true → ((j : ℕ) → j < k → get_or answers j false ≡ true → far_of sorted j ≤ far_of sorted farthest)
      → last < k → get_or answers last false ≡ true → ((j : ℕ) → j < k → get_or answers j false ≡ true → j ≤ last)
      → IsClear sorted answers k ↔ ((¬ (Overlaps (extent_at sorted farthest) (extent_at sorted k))) × (¬ (Overlaps (extent_at sorted last) (extent_at sorted k))))
  IsClear-two answers ordered k farthest last short clear low stays most low' stays' latest = (
    (λ c. (c farthest low stays, c last low' stays')),
    (λ no j h yes over. elim over [
      | inl both ↦ elim (cases_lt (near_of sorted farthest) (far_of sorted k)) [
        | inl g ↦ no.0 (inl (g, omega (arith, both, most j h yes)))
        | inr g ↦
            let a = up farthest k low short in
            let touch = ordered k short in
            let first : j < farthest = before j farthest (omega arith) (omega arith) (inl (omega (arith, a, both, g, touch))) in
            (clear farthest low).0 stays j first yes (inl (omega (arith, both, g, ordered farthest (omega arith)), omega (arith, a, both, touch)))
      ]
      | inr same ↦
          let alike = alike_between j last k (latest j h yes) low' short (ap (λ (e : Extent). e.begin) same, ap (λ (e : Extent). e.end) same) in
          no.1 (inr (same_extent (extent_at sorted last) (extent_at sorted k) alike.0 alike.1))
    ]),
  )

-- an answer that two tests give together
pub both_true : {P Q : Type 0} (x a b : Bool) → x ≡ b → a ≡ true → (a ≡ true) ↔ P → (b ≡ true) ↔ Q → (x ≡ true) ↔ (P × Q)
both_true x a b e t p q = ((λ s. (p.0 t, q.0 (sym e ∙ s))), (λ h. e ∙ q.1 h.1))

pub first_false : {P Q : Type 0} (x a : Bool) → x ≡ a → a ≡ false → (a ≡ true) ↔ P → (x ≡ true) ↔ (P × Q)
first_false x a e f p = ((λ s. absurd (true≢false (sym s ∙ e ∙ f))), (λ h. absurd (true≢false (sym (p.1 h.0) ∙ f))))

-- one more answer
answer_before : (xs : List Bool) (x : Bool) (k : ℕ) → k < length xs → get_or (xs ++ x ∷ []) k false ≡ get_or xs k false
answer_before xs x k h = get_or_append_left xs (x ∷ []) false k h

answer_at : (xs : List Bool) (x : Bool) (k : ℕ) → length xs ≡ k → get_or (xs ++ x ∷ []) k false ≡ x
answer_at xs x k e = subst (λ n. get_or (xs ++ x ∷ []) n false ≡ x) e (get_or-append_seam xs x [] false)

pub answered-push : (P : ℕ → Type 0) (xs : List Bool) (x : Bool) (i : ℕ) → length xs ≡ i → ((k : ℕ) → k < i → (get_or xs k false ≡ true) ↔ P k) → (x ≡ true) ↔ P i
    → (k : ℕ) → k < i + 1 → (get_or (xs ++ x ∷ []) k false ≡ true) ↔ P k
answered-push P xs x i number before' here k h = elim (cases_lt k i) [
  | inl g ↦ let e = answer_before xs x k (omega (arith, g, number)) in ((λ t. (before' k g).0 (sym e ∙ t)), (λ p. e ∙ (before' k g).1 p))
  | inr g ↦
      let same : k ≡ i = omega arith in
      let e = answer_at xs x k (omega (arith, number, same)) in
      ((λ t. subst P (sym same) (here.0 (sym e ∙ t))), (λ p. e ∙ here.1 (subst P same p)))
]

-- what a sweep from left to right knows after i candidates: the answers, and of those that stay the farthest and the last one
pub record IsSwept (sorted : List Candidate) (answers : List Bool) (i farthest last : ℕ) : Type 0 where
  pub number : length answers ≡ i
  pub answered : (k : ℕ) → k < i → (get_or answers k false ≡ true) ↔ IsClear sorted answers k
  pub begun : i ≡ 0 → (farthest ≡ 0) × (last ≡ 0)
  pub farthest_before : 0 < i → farthest < i
  pub farthest_stays : 0 < i → get_or answers farthest false ≡ true
  pub none_farther : (k : ℕ) → k < i → get_or answers k false ≡ true → far_of sorted k ≤ far_of sorted farthest
  pub last_before : 0 < i → last < i
  pub last_stays : 0 < i → get_or answers last false ≡ true
  pub none_later : (k : ℕ) → k < i → get_or answers k false ≡ true → k ≤ last

pub IsSwept-none : (sorted : List Candidate) → IsSwept sorted [] 0 0 0
IsSwept-none sorted = record {
  number = refl;
  answered = λ k h. absurd (omega arith);
  begun = λ e. (refl, refl);
  farthest_before = λ h. absurd (omega arith);
  farthest_stays = λ h. absurd (omega arith);
  none_farther = λ k h t. absurd (omega arith);
  last_before = λ h. absurd (omega arith);
  last_stays = λ h. absurd (omega arith);
  none_later = λ k h t. absurd (omega arith);
}

length_push : (xs : List Bool) (x : Bool) → length (xs ++ x ∷ []) ≡ length xs + 1
length_push xs x = length-append xs (x ∷ [])

module _ (sorted : List Candidate) (up : AreSorted sorted) (ordered : (k : ℕ) → k < length sorted → near_of sorted k ≤ far_of sorted k)
    (answers : List Bool) (i farthest last : ℕ) (short : i < length sorted) (swept : IsSwept sorted answers i farthest last) where
  pub farthest_there : farthest < length sorted
  farthest_there = elim (cases_lt 0 i) [ inl h ↦ omega (arith, swept.farthest_before h, short) | inr h ↦ omega (arith, (swept.begun (omega arith)).0, short) ]

  pub last_there : last < length sorted
  last_there = elim (cases_lt 0 i) [ inl h ↦ omega (arith, swept.last_before h, short) | inr h ↦ omega (arith, (swept.begun (omega arith)).1, short) ]

  -- an answer that looks at the farthest and at the last one is right
  pub decided : (x : Bool) → (x ≡ true) ↔ ((0 < i → ¬ (Overlaps (extent_at sorted farthest) (extent_at sorted i))) × (0 < i → ¬ (Overlaps (extent_at sorted last) (extent_at sorted i)))) → (x ≡ true) ↔ IsClear sorted answers i
  decided x is = (
    (λ t. elim (cases_lt 0 i) [ inl h ↦ (two h).1 ((is.0 t).0 h, (is.0 t).1 h) | inr h ↦ λ j less. absurd (omega (arith, less, h)) ]),
    (λ clear. is.1 ((λ h. ((two h).0 clear).0), (λ h. ((two h).0 clear).1))),
  )
    where
      two : 0 < i → IsClear sorted answers i ↔ ((¬ (Overlaps (extent_at sorted farthest) (extent_at sorted i))) × (¬ (Overlaps (extent_at sorted last) (extent_at sorted i))))
      two h = IsClear-two sorted up answers ordered i farthest last short swept.answered (swept.farthest_before h) (swept.farthest_stays h) swept.none_farther (swept.last_before h) (swept.last_stays h) swept.none_later

  module _ (x : Bool) (right : (x ≡ true) ↔ IsClear sorted answers i) where
    as_before : (k : ℕ) → k < i → get_or (answers ++ x ∷ []) k false ≡ get_or answers k false
    as_before k h = answer_before answers x k (omega (arith, h, swept.number))

    as_now : get_or (answers ++ x ∷ []) i false ≡ x
    as_now = answer_at answers x i swept.number

    clear_still : (k : ℕ) → k < i + 1 → IsClear sorted answers k ↔ IsClear sorted (answers ++ x ∷ []) k
    clear_still k h = (
      (λ clear j less t. clear j less (sym (as_before j (omega (arith, less, h))) ∙ t)),
      (λ clear j less t. clear j less (as_before j (omega (arith, less, h)) ∙ t)),
    )

    answered_still : (k : ℕ) → k < i + 1 → (get_or (answers ++ x ∷ []) k false ≡ true) ↔ IsClear sorted (answers ++ x ∷ []) k
    answered_still k h =
        let p = answered-push (λ n. IsClear sorted answers n) answers x i swept.number swept.answered right k h in
        ((λ t. (clear_still k h).0 (p.0 t)), (λ clear. p.1 ((clear_still k h).1 clear)))

    pub IsSwept-kept : (next : ℕ) → x ≡ true → ((next ≡ farthest) ⊎ (next ≡ i)) → far_of sorted farthest ≤ far_of sorted next → far_of sorted i ≤ far_of sorted next → IsSwept sorted (answers ++ x ∷ []) (i + 1) next i
    IsSwept-kept next t either beyond beyond_i = record {
      number = omega (arith, length_push answers x, swept.number);
      answered = answered_still;
      begun = λ e. absurd (omega (arith, e));
      farthest_before = λ h. elim either [
        | inl e ↦ elim (cases_lt 0 i) [ inl g ↦ omega (arith, swept.farthest_before g, e) | inr g ↦ omega (arith, (swept.begun (omega arith)).0, e) ]
        | inr e ↦ omega (arith, e)
      ];
      farthest_stays = λ h. elim either [
        | inl e ↦ elim (cases_lt 0 i) [
          | inl g ↦ subst (λ n. get_or (answers ++ x ∷ []) n false ≡ true) (sym e) (as_before farthest (swept.farthest_before g) ∙ swept.farthest_stays g)
          | inr g ↦ let same : i ≡ next = omega (arith, (swept.begun (omega arith)).0, e) in subst (λ n. get_or (answers ++ x ∷ []) n false ≡ true) same (as_now ∙ t)
        ]
        | inr e ↦ subst (λ n. get_or (answers ++ x ∷ []) n false ≡ true) (sym e) (as_now ∙ t)
      ];
      none_farther = λ k h s. elim (cases_lt k i) [
        | inl g ↦ omega (arith, swept.none_farther k g (sym (as_before k g) ∙ s), beyond)
        | inr g ↦ let e : i ≡ k = omega arith in subst (λ n. far_of sorted n ≤ far_of sorted next) e beyond_i
      ];
      last_before = λ h. omega arith;
      last_stays = λ h. as_now ∙ t;
      none_later = λ k h s. omega arith;
    }

    pub IsSwept-dropped : x ≡ false → IsSwept sorted (answers ++ x ∷ []) (i + 1) farthest last
    IsSwept-dropped f = record {
      number = omega (arith, length_push answers x, swept.number);
      answered = answered_still;
      begun = λ e. absurd (omega (arith, e));
      farthest_before = λ h. omega (arith, swept.farthest_before some);
      farthest_stays = λ h. as_before farthest (swept.farthest_before some) ∙ swept.farthest_stays some;
      none_farther = λ k h s. elim (cases_lt k i) [ inl g ↦ swept.none_farther k g (sym (as_before k g) ∙ s) | inr g ↦ absurd (dropped k g h s) ];
      last_before = λ h. omega (arith, swept.last_before some);
      last_stays = λ h. as_before last (swept.last_before some) ∙ swept.last_stays some;
      none_later = λ k h s. elim (cases_lt k i) [ inl g ↦ swept.none_later k g (sym (as_before k g) ∙ s) | inr g ↦ absurd (dropped k g h s) ];
    }
      where
        apart : x ≡ true → ⊥
        apart t = true≢false (sym t ∙ f)

        -- the first candidate stays
        some : 0 < i
        some = elim (cases_lt 0 i) [ inl h ↦ h | inr h ↦ absurd (apart (right.1 (λ j less. absurd (omega (arith, less, h))))) ]

        dropped : (k : ℕ) → i ≤ k → k < i + 1 → get_or (answers ++ x ∷ []) k false ≡ true → ⊥
        dropped k g h s = let e : k ≡ i = omega arith in apart (sym as_now ∙ subst (λ n. get_or (answers ++ x ∷ []) n false ≡ true) e s)

-- what a sweep for containment knows after i candidates: how far they reach, and whether the last one is uncovered
pub record IsReached (sorted : List Candidate) (i past : ℕ) (is_uncovered : Bool) : Type 0 where
  pub above : (k : ℕ) → k < i → far_of sorted k < past
  pub least : (n : ℕ) → ((k : ℕ) → k < i → far_of sorted k < n) → past ≤ n
  pub last : (k : ℕ) → k + 1 ≡ i → (is_uncovered ≡ true) ↔ IsUncovered sorted k

pub IsReached-none : (sorted : List Candidate) → IsReached sorted 0 0 true
IsReached-none sorted = record { above = λ k h. absurd (omega arith); least = λ n h. omega arith; last = λ k e. absurd (omega (arith, e)) }

module _ (sorted : List Candidate) (up : AreSorted sorted) (i past : ℕ) (was : Bool) (short : i < length sorted) (reached : IsReached sorted i past was) where
  pub uncovered-new : IsNew sorted i → (far : ℕ) → far ≡ far_of sorted i → (b : Bool) → b ≡ leb past far → (b ≡ true) ↔ IsUncovered sorted i
  uncovered-new new far e b is =
      let same = IsUncovered-new sorted up i past short new reached.above reached.least in (
        (λ t. same.1 (omega (arith, leb-true past far (sym is ∙ t), e))),
        (λ open'. is ∙ le-leb past far (omega (arith, same.0 open', e))),
      )

  pub uncovered-old : (at : (k : ℕ) × (k + 1 ≡ i) × AreAlike sorted k i) (b : Bool) → b ≡ was → (b ≡ true) ↔ IsUncovered sorted i
  uncovered-old at b is =
      let same = IsUncovered-alike sorted up at.0 i at.1 short at.2 in
      let last = reached.last at.0 at.1 in
      ((λ t. same.0 (last.0 (sym is ∙ t))), (λ open'. is ∙ last.1 (same.1 open')))

  pub IsReached-next : (far next : ℕ) → far ≡ far_of sorted i → next ≡ max past (far + 1) → (b : Bool) → (b ≡ true) ↔ IsUncovered sorted i → IsReached sorted (i + 1) next b
  IsReached-next far next e is b right = record {
    above = λ k h. elim (cases_lt k i) [ inl g ↦ omega (arith, reached.above k g, is) | inr g ↦ let same : k ≡ i = omega arith in omega (arith, ap (far_of sorted) same, is, e) ];
    least = λ n h. omega (arith, reached.least n (λ k g. h k (omega (arith, g))), h i (omega arith), is, e);
    last = λ k e'. let same : i ≡ k = omega (arith, e') in subst (λ n. (b ≡ true) ↔ IsUncovered sorted n) same right;
  }
