-- The numbers of the rows that stay: the marks of a sweep give them, and there is one such list.
use Rattle.std.proofs.Common.{◌≡◌, ℕ, zero, suc, ◌+◌, ◌<◌, ◌⊎◌, inl, inr, Bool, true, false, cond, List, [], ◌∷◌, length, get_or, refl, sym, ap, ◌∙◌, subst, arith, Option, Some, None, ◌↔◌, Contains, filter}
use Rattle.std.specs.List.{range_with_len}
use Rattle.std.specs.List.Sorted.{IsStrictlyIncreasing}
use Rattle.std.proofs.lemmas.Bool.{cases_lt}
use Rattle.std.proofs.lemmas.List.{get_or_past}
use Rattle.std.proofs.lemmas.List.Kept.{AllPairs-from_increasing, IsStrictlyIncreasing-filter}
use Rattle.std.proofs.lemmas.List.FromFn.{length-range_with_len, get_or-range_with_len}
use Rattle.span_token.specs.Extents.{Extent}
use Rattle.span_token.specs.RisingLists.{same_rising, Contains-here, Contains-there, Contains-cases, Contains-range, in_range}
use Rattle.span_sets.specs.Consolidation.{HasTarget, Allows, Stays, IsKept}
use Rattle.span_sets.specs.Candidates.{row_number_of, AreSorted, AreCandidatesOf, Passes, is_mirrored, marked_numbers}
use Rattle.span_sets.specs.declared.candidate.Candidate.{Candidate}
use Rattle.span_sets.specs.declared.policy.Policy.{Policy}
use Rattle.span_sets.specs.LawProofs.Policies.{allows_is_passes}

-- what a filter keeps
filter_here : (b : Bool) (p : ℕ → Bool) (x y : ℕ) (xs : List ℕ) → Contains xs x → Contains (cond b (y ∷ xs) xs) x
filter_here true p x y xs h = Contains-there y xs x h
filter_here false p x y xs h = h

pub Contains-filter : (p : ℕ → Bool) (xs : List ℕ) (x : ℕ) → Contains xs x → p x ≡ true → Contains (filter p xs) x
Contains-filter p [] x h passed = absurd (omega (arith, h.1))
Contains-filter p (y ∷ ys) x h passed = elim (Contains-cases y ys x h) [
  | inl e ↦ rw (e, passed) (Contains-here x (filter p ys))
  | inr later ↦ filter_here (p y) p x y (filter p ys) (Contains-filter p ys x later passed)
]

filter_from : (b : Bool) (p : ℕ → Bool) (x y : ℕ) (ys : List ℕ) → p y ≡ b → (Contains (filter p ys) x → Contains ys x × (p x ≡ true)) → Contains (cond b (y ∷ filter p ys) (filter p ys)) x → Contains (y ∷ ys) x × (p x ≡ true)
filter_from true p x y ys is later h = elim (Contains-cases y (filter p ys) x h) [
  | inl e ↦ (subst (λ n. Contains (y ∷ ys) n) e (Contains-here y ys), ap p (sym e) ∙ is)
  | inr more ↦ (Contains-there y ys x (later more).0, (later more).1)
]
filter_from false p x y ys is later h = (Contains-there y ys x (later h).0, (later h).1)

pub Contains-from_filter : (p : ℕ → Bool) (xs : List ℕ) (x : ℕ) → Contains (filter p xs) x → Contains xs x × (p x ≡ true)
Contains-from_filter p [] x h = absurd (omega (arith, h.1))
Contains-from_filter p (y ∷ ys) x h = filter_from (p y) p x y ys refl (Contains-from_filter p ys x) h

pub IsStrictlyIncreasing-range : (n : ℕ) → IsStrictlyIncreasing (range_with_len 0 n)
IsStrictlyIncreasing-range n = λ k h. omega (arith, h, length-range_with_len 0 n, get_or-range_with_len 0 n k 0 (omega (arith, h, length-range_with_len 0 n)), get_or-range_with_len 0 n (k + 1) 0 (omega (arith, h, length-range_with_len 0 n)))

module _ (marks : List Bool) where
  pub marked_there : (i : ℕ) → i < length marks → get_or marks i false ≡ true → Contains (marked_numbers marks) i
  marked_there i short passed = Contains-filter (λ j. get_or marks j false) (range_with_len 0 (length marks)) i (Contains-range 0 (length marks) i (omega arith) (omega arith)) passed

  pub there_marked : (i : ℕ) → Contains (marked_numbers marks) i → (i < length marks) × (get_or marks i false ≡ true)
  there_marked i h =
      let from = Contains-from_filter (λ j. get_or marks j false) (range_with_len 0 (length marks)) i h in
      (omega (arith, (in_range 0 (length marks) i from.0).1), from.1)

  pub IsStrictlyIncreasing-marked : IsStrictlyIncreasing (marked_numbers marks)
  IsStrictlyIncreasing-marked = IsStrictlyIncreasing-filter (λ j. get_or marks j false) (range_with_len 0 (length marks)) (IsStrictlyIncreasing-range (length marks))

pub null_or : (o : Option Extent) → (o ≡ None) ⊎ ((t : Extent) × (o ≡ Some t))
null_or None = inl refl
null_or (Some t) = inr (t, refl)

pub not_both : (o : Option Extent) (t : Extent) → o ≡ None → o ≡ Some t → ⊥
not_both o t e f = cc

-- a row that has a target is one of the list
pub in_targets : (targets : List (Option Extent)) (i : ℕ) (t : Extent) → HasTarget targets i t → i < length targets
in_targets targets i t has = elim (cases_lt i (length targets)) [ inl h ↦ h | inr h ↦ absurd (not_both (get_or targets i None) t (get_or_past targets i None h) has) ]

module _ (policy : Policy) (targets : List (Option Extent)) (sorted : List Candidate) (known : AreCandidatesOf (is_mirrored policy) targets sorted) (up : AreSorted sorted)
    (answers : List Bool) (passes : (k : ℕ) → k < length sorted → (get_or answers k false ≡ true) ↔ Passes policy sorted answers k) where
  -- a list of the rows that stay agrees with the answers, from the first candidate on
  agrees_below : (kept : List ℕ) → IsKept policy targets kept → (n k : ℕ) → k < n → k < length sorted → Contains kept (row_number_of sorted k) ↔ (get_or answers k false ≡ true)
  agrees_below kept is zero k h short = absurd (omega (arith, h))
  agrees_below kept is (suc n) k h short = elim (cases_lt k n) [
    | inl g ↦ agrees_below kept is n k g short
    | inr g ↦
        let own = known.of_target k short in
        let same = allows_is_passes policy targets sorted known up answers kept k own.0 short own.1 (λ j less. agrees_below kept is n j (omega (arith, less, h)) (omega (arith, less, short))) in (
          (λ c. (passes k short).1 (same.0 (((is.exactly (row_number_of sorted k)).0 c).allowed own.0 own.1))),
          (λ passed. (is.exactly (row_number_of sorted k)).1 (record {
            there = in_targets targets (row_number_of sorted k) own.0 own.1;
            allowed = λ t has. (allows_is_passes policy targets sorted known up answers kept k t short has (λ j less. agrees_below kept is n j (omega (arith, less, h)) (omega (arith, less, short)))).1 ((passes k short).0 passed);
          })),
        )
  ]

  pub agrees : (kept : List ℕ) → IsKept policy targets kept → (k : ℕ) → k < length sorted → Contains kept (row_number_of sorted k) ↔ (get_or answers k false ≡ true)
  agrees kept is k short = agrees_below kept is (k + 1) k (omega arith) short

  one_way : (a b : List ℕ) → IsKept policy targets a → IsKept policy targets b → (i : ℕ) → Contains a i → Contains b i
  one_way a b is_a is_b i h =
      let stays = (is_a.exactly i).0 h in
      elim (null_or (get_or targets i None)) [
        | inl null ↦ (is_b.exactly i).1 (record { there = stays.there; allowed = λ t has. absurd (not_both (get_or targets i None) t null has) })
        | inr some ↦
            let at = known.each i some.0 some.1 in
            subst (λ n. Contains b n) at.2 ((agrees b is_b at.0 at.1).1 ((agrees a is_a at.0 at.1).0 (subst (λ n. Contains a n) (sym at.2) h)))
      ]

  -- there is just one list of the rows that stay
  pub IsKept-unique : (a b : List ℕ) → IsKept policy targets a → IsKept policy targets b → a ≡ b
  IsKept-unique a b is_a is_b = same_rising (λ (i : ℕ). i) a b (AllPairs-from_increasing a is_a.rising) (AllPairs-from_increasing b is_b.rising) (one_way a b is_a is_b) (one_way b a is_b is_a)

  module _ (marks : List Bool) (number : length marks ≡ length targets) (nulls : (i : ℕ) → i < length targets → get_or targets i None ≡ None → get_or marks i false ≡ true)
      (answered : (k : ℕ) → k < length sorted → get_or marks (row_number_of sorted k) false ≡ get_or answers k false) where
    marked_answers : (k : ℕ) → k < length sorted → Contains (marked_numbers marks) (row_number_of sorted k) ↔ (get_or answers k false ≡ true)
    marked_answers k short =
        let own = known.of_target k short in
        let there = in_targets targets (row_number_of sorted k) own.0 own.1 in (
          (λ h. sym (answered k short) ∙ (there_marked marks (row_number_of sorted k) h).1),
          (λ passed. marked_there marks (row_number_of sorted k) (omega (arith, there, number)) (answered k short ∙ passed)),
        )

    allowed_is : (i : ℕ) (t : Extent) → (k : ℕ) → k < length sorted → row_number_of sorted k ≡ i → HasTarget targets i t → Stays policy targets (marked_numbers marks) i ↔ (get_or answers k false ≡ true)
    allowed_is i t k short e has =
        let at_k : (u : Extent) → HasTarget targets i u → HasTarget targets (row_number_of sorted k) u = λ u h. ap (λ n. get_or targets n None) e ∙ h in
        let same = λ (u : Extent) (h : HasTarget targets i u). allows_is_passes policy targets sorted known up answers (marked_numbers marks) k u short (at_k u h) (λ j less. marked_answers j (omega (arith, less, short))) in (
          (λ stays. (passes k short).1 ((same t has).0 (subst (λ n. Allows policy targets (marked_numbers marks) n t) (sym e) (stays.allowed t has)))),
          (λ passed. record { there = in_targets targets i t has; allowed = λ u h. subst (λ n. Allows policy targets (marked_numbers marks) n u) e ((same u h).1 ((passes k short).0 passed)) }),
        )

    -- and the marks give it
    pub IsKept-marked : IsKept policy targets (marked_numbers marks)
    IsKept-marked = record {
      rising = IsStrictlyIncreasing-marked marks;
      exactly = λ i. (
        (λ h. let there = there_marked marks i h in elim (null_or (get_or targets i None)) [
          | inl null ↦ record { there = omega (arith, there.0, number); allowed = λ t has. absurd (not_both (get_or targets i None) t null has) }
          | inr some ↦
              let at = known.each i some.0 some.1 in
              (allowed_is i some.0 at.0 at.1 at.2 some.1).1 ((marked_answers at.0 at.1).0 (subst (λ n. Contains (marked_numbers marks) n) (sym at.2) h))
        ]),
        (λ stays. elim (null_or (get_or targets i None)) [
          | inl null ↦ marked_there marks i (omega (arith, stays.there, number)) (nulls i stays.there null)
          | inr some ↦
              let at = known.each i some.0 some.1 in
              subst (λ n. Contains (marked_numbers marks) n) at.2 ((marked_answers at.0 at.1).1 ((allowed_is i some.0 at.0 at.1 at.2 some.1).0 stays))
        ]),
      );
    }
