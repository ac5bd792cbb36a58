-- The numbers of the rows that stay, as a function: they are the one list that the rules ask for.
use Rattle.std.proofs.Common.{◌≡◌, ℕ, zero, suc, ◌+◌, ◌<◌, ◌≤◌, inl, inr, ◌↔◌, Bool, false, List, [], ◌∷◌, length, get_or, sym, ap, subst, ◌∙◌, arith, Option, Some, None, Contains}
use Rattle.std.specs.List.{range_with_len}
use Rattle.std.specs.List.Sorted.{IsPermutation}
use Rattle.std.proofs.lemmas.Bool.{cases_lt}
use Rattle.std.proofs.lemmas.List.Kept.{AllPairs-from_increasing, IsStrictlyIncreasing-filter}
use Rattle.std.proofs.lemmas.List.Sorted.{length_permutation}
use Rattle.aql_base.specs.Sorting.{sorted_by}
use Rattle.aql_base.specs.SortingLaws.{SameBag-sorted_by, IsSorted-sorted_by}
use Rattle.span_token.specs.Extents.{Extent}
use Rattle.span_token.specs.RisingLists.{same_rising, Contains-range, in_range}
use Rattle.span_sets.specs.Candidates.{candidates_from, row_number_of, near_of, far_of, AreSorted, AreCandidatesOf}
use Rattle.span_sets.specs.Consolidation.{HasTarget, ComesBefore, Allows, Stays, IsKept}
use Rattle.span_sets.specs.KeptRows.{does_stay, kept_after, kept_numbers}
use Rattle.span_sets.specs.declared.candidate.Candidate.{Candidate}
use Rattle.span_sets.specs.declared.policy.Policy.{Policy}
use Rattle.span_sets.specs.declared.policy.Policy.TheVariants.{ContainedWithin, NotContainedWithin, ContainsButNotEqual, ExactMatch, LeftToRight}
use Rattle.span_sets.specs.LawProofs.CandidateLists.{candidate_cmp, candidate_cmp_total, AreSorted-from_sort, AreCandidatesOf-from_sort}
use Rattle.span_sets.specs.LawProofs.Keeping.{Contains-filter, Contains-from_filter, IsStrictlyIncreasing-range, null_or, not_both}
use Rattle.span_sets.specs.LawProofs.RuleTests.{some_is, does_stay-decides}

few : (i : ℕ) (targets : List (Option Extent)) → length (candidates_from false i targets) ≤ length targets
unfolding candidates_from
few i [] = omega arith
few i (None ∷ targets) = omega (arith, few (i + 1) targets)
few i (Some t ∷ targets) = omega (arith, few (i + 1) targets)

-- what a policy allows goes by the kept rows that come before
allows_alike : (policy : Policy) (targets : List (Option Extent)) (a b : List ℕ) (i : ℕ) (t : Extent) → ((j : ℕ) (u : Extent) → HasTarget targets j u → ComesBefore j u i t → Contains b j → Contains a j) → Allows policy targets a i t → Allows policy targets b i t
allows_alike ContainedWithin targets a b i t agree h = h
allows_alike NotContainedWithin targets a b i t agree h = h
allows_alike ContainsButNotEqual targets a b i t agree h = h
allows_alike ExactMatch targets a b i t agree h = h
allows_alike LeftToRight targets a b i t agree h = λ j u stays has comes. h j u (agree j u has comes stays) has comes

module _ (policy : Policy) (targets : List (Option Extent)) where
  stays_alike : (a b : List ℕ) (i : ℕ) → ((t : Extent) → HasTarget targets i t → (j : ℕ) (u : Extent) → HasTarget targets j u → ComesBefore j u i t → Contains b j → Contains a j) → Stays policy targets a i → Stays policy targets b i
  stays_alike a b i agree s = record { there = s.there; allowed = λ t has. allows_alike policy targets a b i t (agree t has) (s.allowed t has) }

  abbrev sorted : List Candidate
  sorted = sorted_by candidate_cmp (candidates_from false 0 targets)

  bag : IsPermutation (candidates_from false 0 targets) sorted
  bag = SameBag-sorted_by candidate_cmp_total (candidates_from false 0 targets)

  up : AreSorted sorted
  up = AreSorted-from_sort false targets sorted bag (IsSorted-sorted_by candidate_cmp_total (candidates_from false 0 targets))

  known : AreCandidatesOf false targets sorted
  known = AreCandidatesOf-from_sort false targets sorted bag

  not_many : length sorted ≤ length targets
  not_many = omega (arith, few 0 targets, length_permutation (candidates_from false 0 targets) sorted bag)

  ends_are : (k : ℕ) (t : Extent) → k < length sorted → HasTarget targets (row_number_of sorted k) t → (near_of sorted k ≡ t.begin) × (far_of sorted k ≡ t.end)
  ends_are k t short has =
      let own = known.of_target k short in
      let same : own.0 ≡ t = some_is own.0 t (sym own.1 ∙ has) in
      (ap (λ (e : Extent). e.begin) (own.2 ∙ same), ap (λ (e : Extent). e.end) (own.2 ∙ same))

  -- what comes before stands before among the candidates
  stands_before : (m k : ℕ) (u t : Extent) → m < length sorted → k < length sorted → HasTarget targets (row_number_of sorted m) u → HasTarget targets (row_number_of sorted k) t → ComesBefore (row_number_of sorted m) u (row_number_of sorted k) t → m < k
  stands_before m k u t short_m short_k has_u has_t comes =
      let a = ends_are m u short_m has_u in
      let b = ends_are k t short_k has_t in
      elim (cases_lt m k) [
        | inl h ↦ h
        | inr h ↦ elim (cases_lt k m) [
          | inl g ↦ absurd (omega (arith, up k m g short_m, a, b, comes))
          | inr g ↦
              let e : m ≡ k = omega (arith, h, g) in
              absurd (omega (arith, ap (near_of sorted) e, ap (far_of sorted) e, ap (row_number_of sorted) e, a, b, comes))
        ]
      ]

  -- b has exactly the rows that stay where those of a stay
  abbrev Follows : List ℕ → List ℕ → Type 0
  Follows a b = (i : ℕ) → Contains b i ↔ Stays policy targets a i

  -- each of the first n candidates that is in a is in b
  abbrev AreInUpTo : ℕ → List ℕ → List ℕ → Type 0
  AreInUpTo n a b = (k : ℕ) → k < n → k < length sorted → Contains a (row_number_of sorted k) → Contains b (row_number_of sorted k)

  -- lists that agree on n candidates are followed by ones that agree on one more
  one_more : (n : ℕ) (a b a' b' : List ℕ) → Follows a a' → Follows b b' → AreInUpTo n b a → AreInUpTo (suc n) a' b'
  one_more n a b a' b' of_a of_b agree k low short at =
      (of_b (row_number_of sorted k)).1 (stays_alike a b (row_number_of sorted k) (λ t has j u other comes in_b.
      let m = known.each j u other in
      let there : HasTarget targets (row_number_of sorted m.0) u = ap (λ n. get_or targets n None) m.2 ∙ other in
      let before : m.0 < k = stands_before m.0 k u t m.1 short there has (subst (λ n. ComesBefore n u (row_number_of sorted k) t) (sym m.2) comes) in
      subst (λ n. Contains a n) m.2 (agree m.0 (omega (arith, before, low)) m.1 (subst (λ n. Contains b n) (sym m.2) in_b)))
      ((of_a (row_number_of sorted k)).0 at))

  -- one list follows itself
  up_to : (a b : List ℕ) → Follows a a → Follows b b → (n : ℕ) → AreInUpTo n a b × AreInUpTo n b a
  up_to a b of_a of_b zero = (λ k low. absurd (omega (arith, low)), λ k low. absurd (omega (arith, low)))
  up_to a b of_a of_b (suc n) =
      let before = up_to a b of_a of_b n in
      (one_more n a b a b of_a of_b before.1, one_more n b a b a of_b of_a before.0)

  one_way : (a b : List ℕ) → IsKept policy targets a → IsKept policy targets b → (i : ℕ) → Contains a i → Contains b i
  one_way a b is_a is_b i at =
      let stays = (is_a.exactly i).0 at in
      elim (null_or (get_or targets i None)) [
        | inl null ↦ (is_b.exactly i).1 (record { there = stays.there; allowed = λ t has. absurd (not_both (get_or targets i None) t null has) })
        | inr some ↦
            let k = known.each i some.0 some.1 in
            subst (λ n. Contains b n) k.2 ((up_to a b is_a.exactly is_b.exactly (suc k.0)).0 k.0 (omega arith) k.1 (subst (λ n. Contains a n) (sym k.2) at))
      ]

  pub IsKept-one : (a b : List ℕ) → IsKept policy targets a → IsKept policy targets b → a ≡ b
  IsKept-one a b is_a is_b = same_rising (λ (i : ℕ). i) a b (AllPairs-from_increasing a is_a.rising) (AllPairs-from_increasing b is_b.rising) (one_way a b is_a is_b) (one_way b a is_b is_a)

  abbrev test : ℕ → ℕ → Bool
  test n i = does_stay policy targets (kept_after n policy targets) i (get_or targets i None)

  round : (n : ℕ) → Follows (kept_after n policy targets) (kept_after (suc n) policy targets)
  round n i = (
    λ at.
        let own = Contains-from_filter (test n) (range_with_len 0 (length targets)) i at in
        (does_stay-decides policy targets (kept_after n policy targets) i (omega (arith, in_range 0 (length targets) i own.0))).0 own.1,
    λ stays. Contains-filter (test n) (range_with_len 0 (length targets)) i (Contains-range 0 (length targets) i (omega arith) (omega (arith, stays.there))) ((does_stay-decides policy targets (kept_after n policy targets) i stays.there).1 stays),
  )

  -- n rounds settle n candidates
  settled : (n : ℕ) → AreInUpTo n (kept_after n policy targets) (kept_after (suc n) policy targets) × AreInUpTo n (kept_after (suc n) policy targets) (kept_after n policy targets)
  settled zero = (λ k low. absurd (omega (arith, low)), λ k low. absurd (omega (arith, low)))
  settled (suc n) =
      let before = settled n in (
        one_more n (kept_after n policy targets) (kept_after (suc n) policy targets) (kept_after (suc n) policy targets) (kept_after (suc (suc n)) policy targets) (round n) (round (suc n)) before.1,
        one_more n (kept_after (suc n) policy targets) (kept_after n policy targets) (kept_after (suc (suc n)) policy targets) (kept_after (suc n) policy targets) (round (suc n)) (round n) before.0,
      )

  -- what is settled for all candidates is settled for all targets
  all_settled : (a b : List ℕ) → AreInUpTo (length targets) a b → (j : ℕ) (u : Extent) → HasTarget targets j u → Contains a j → Contains b j
  all_settled a b agree j u has at =
      let k = known.each j u has in
      subst (λ n. Contains b n) k.2 (agree k.0 (omega (arith, k.1, not_many)) k.1 (subst (λ n. Contains a n) (sym k.2) at))

  pub IsKept-kept_numbers : IsKept policy targets (kept_numbers policy targets)
  unfolding kept_numbers
  IsKept-kept_numbers =
      let n : ℕ = length targets in
      let a : List ℕ = kept_after n policy targets in
      let b : List ℕ = kept_after (suc n) policy targets in
      record {
        rising = IsStrictlyIncreasing-filter (test n) (range_with_len 0 n) (IsStrictlyIncreasing-range n);
        exactly = λ i. (
          λ at. stays_alike a b i (λ t has j u other comes. all_settled b a (settled n).1 j u other) ((round n i).0 at),
          λ stays. (round n i).1 (stays_alike b a i (λ t has j u other comes. all_settled a b (settled n).0 j u other) stays),
        );
      }
