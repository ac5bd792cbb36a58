-- What a policy says of targets, and what a sweep asks of their candidates.
use Rattle.std.proofs.Common.{◌≡◌, ◌≢◌, ℕ, ◌<◌, inl, inr, Bool, true, false, List, length, get_or, sym, ap, ◌∙◌, subst, arith, Option, Some, None, ◌↔◌, Contains}
use Rattle.std.proofs.lemmas.Bool.{cases_lt}
use Rattle.span_token.specs.Extents.{Extent}
use Rattle.span_token.specs.Relations.{ContainsExtent, Overlaps}
use Rattle.span_token.specs.ExtentLaws.{same_extent}
use Rattle.span_sets.specs.Consolidation.{HasTarget, IsInnermost, IsFirstOfEqual, ComesBefore, IsFree, Allows}
use Rattle.span_sets.specs.Candidates.{facing, mirrored, near_of, far_of, row_number_of, extent_at, AreSorted, AreAlike, IsNew, IsUncovered, IsClear, AreCandidatesOf, Passes, is_mirrored}
use Rattle.span_sets.specs.declared.candidate.Candidate.{Candidate}
use Rattle.span_sets.specs.declared.policy.Policy.{Policy}
use Rattle.span_sets.specs.declared.policy.Policy.TheVariants.{ContainedWithin, NotContainedWithin, ContainsButNotEqual, ExactMatch, LeftToRight}
use Rattle.span_sets.specs.LawProofs.Sweeps.{before}

some_same : (a b : Extent) → ◌≡◌ {A = Option Extent} (Some a) (Some b) → a ≡ b
some_same a b e = cc

pub facing-same : (mirror : Bool) (t u : Extent) → facing mirror t ≡ facing mirror u → t ≡ u
facing-same false t u e = e
facing-same true t u e = same_extent t u (ap (λ (x : Extent). x.end) e) (ap (λ (x : Extent). x.begin) e)

module _ (mirror : Bool) (targets : List (Option Extent)) (sorted : List Candidate) (known : AreCandidatesOf mirror targets sorted) (up : AreSorted sorted) where
  one_target : (i : ℕ) (t u : Extent) → HasTarget targets i t → HasTarget targets i u → t ≡ u
  one_target i t u h k = some_same t u (sym h ∙ k)

  pub extent_is : (k : ℕ) (t : Extent) → k < length sorted → HasTarget targets (row_number_of sorted k) t → extent_at sorted k ≡ facing mirror t
  extent_is k t short has =
      let own = known.of_target k short in
      own.2 ∙ ap (facing mirror) (one_target (row_number_of sorted k) own.0 t own.1 has)

  same_target : (j k : ℕ) (u t : Extent) → j < length sorted → k < length sorted → HasTarget targets (row_number_of sorted j) u → HasTarget targets (row_number_of sorted k) t → AreAlike sorted j k → u ≡ t
  same_target j k u t in_j in_k has_u has_t alike =
      facing-same mirror u t (sym (extent_is j u in_j has_u) ∙ same_extent (extent_at sorted j) (extent_at sorted k) alike.0 alike.1 ∙ extent_is k t in_k has_t)

  alike_by : (j k : ℕ) → extent_at sorted j ≡ extent_at sorted k → AreAlike sorted j k
  alike_by j k e = (ap (λ (x : Extent). x.begin) e, ap (λ (x : Extent). x.end) e)

  -- the first of equal targets is the first of alike candidates
  pub first_is_new : (k : ℕ) (t : Extent) → k < length sorted → HasTarget targets (row_number_of sorted k) t → IsFirstOfEqual targets (row_number_of sorted k) t ↔ IsNew sorted k
  first_is_new k t short has = (
    (λ first j h alike.
        let own = known.of_target j (omega arith) in
        let is : own.0 ≡ t = same_target j k own.0 t (omega arith) short own.1 has alike in
        first (row_number_of sorted j) (omega (arith, up j k h short, alike)) (own.1 ∙ ap Some is)),
    (λ new j h other.
        let at = known.each j t other in
        let there : HasTarget targets (row_number_of sorted at.0) t = ap (λ n. get_or targets n None) at.2 ∙ other in
        let alike = alike_by at.0 k (extent_is at.0 t at.1 there ∙ sym (extent_is k t short has)) in
        elim (cases_lt at.0 k) [
          | inl g ↦ new at.0 g alike
          | inr g ↦ elim (cases_lt k at.0) [
            | inl f ↦ absurd (omega (arith, up k at.0 f at.1, alike, at.2, h))
            | inr f ↦ let e : at.0 ≡ k = omega arith in absurd (omega (arith, ap (row_number_of sorted) e, at.2, h))
          ]
        ]),
  )

  -- a target that no different one contains is a candidate that none before covers
  pub outer_is_uncovered : (k : ℕ) (t : Extent) → k < length sorted → HasTarget targets (row_number_of sorted k) t
      → ((j : ℕ) (u : Extent) → HasTarget targets j u → ContainsExtent (facing mirror u) (facing mirror t) → u ≡ t) ↔ IsUncovered sorted k
  outer_is_uncovered k t short has = (
    (λ outer j h reach.
        let own = known.of_target j (omega arith) in
        let mine = alike_by_facing k t short has in
        let theirs = alike_by_facing j own.0 (omega arith) own.1 in
        let is : own.0 ≡ t = outer (row_number_of sorted j) own.0 own.1 (record { begins = omega (arith, up j k h short, mine, theirs); ends = omega (arith, reach, mine, theirs) }) in
        alike_by j k (extent_is j own.0 (omega arith) own.1 ∙ ap (facing mirror) is ∙ sym (extent_is k t short has))),
    (λ open' j u other contains.
        let at = known.each j u other in
        let there : HasTarget targets (row_number_of sorted at.0) u = ap (λ n. get_or targets n None) at.2 ∙ other in
        let mine = alike_by_facing k t short has in
        let theirs = alike_by_facing at.0 u at.1 there in
        same_target at.0 k u t at.1 short there has (elim (cases_lt at.0 k) [
          | inl g ↦ open' at.0 g (omega (arith, contains.ends, mine, theirs))
          | inr g ↦ elim (cases_lt k at.0) [
            | inl f ↦ let a = up k at.0 f at.1 in (omega (arith, a, contains.begins, contains.ends, mine, theirs), omega (arith, a, contains.begins, contains.ends, mine, theirs))
            | inr f ↦ let e : at.0 ≡ k = omega arith in (ap (near_of sorted) e, ap (far_of sorted) e)
          ]
        ])),
  )
    where
      alike_by_facing : (n : ℕ) (v : Extent) → n < length sorted → HasTarget targets (row_number_of sorted n) v → (near_of sorted n ≡ (facing mirror v).begin) × (far_of sorted n ≡ (facing mirror v).end)
      alike_by_facing n v in_n has_v = (ap (λ (x : Extent). x.begin) (extent_is n v in_n has_v), ap (λ (x : Extent). x.end) (extent_is n v in_n has_v))

-- no two candidates have one row number
pub numbers_apart : (mirror : Bool) (targets : List (Option Extent)) (sorted : List Candidate) (known : AreCandidatesOf mirror targets sorted) (up : AreSorted sorted)
    → (j k : ℕ) → j < k → k < length sorted → row_number_of sorted j ≢ row_number_of sorted k
numbers_apart mirror targets sorted known up j k h short e =
    let one = known.of_target j (omega arith) in
    let two = known.of_target k short in
    let same : one.0 ≡ two.0 = one_target mirror targets sorted known up (row_number_of sorted k) one.0 two.0 (ap (λ n. get_or targets n None) (sym e) ∙ one.1) two.1 in
    let alike = alike_by mirror targets sorted known up j k (one.2 ∙ ap (facing mirror) same ∙ sym two.2) in
    absurd (omega (arith, up j k h short, alike, e))

-- containment turns round where the ends are exchanged
innermost_is : (targets : List (Option Extent)) (t : Extent) → IsInnermost targets t ↔ ((j : ℕ) (u : Extent) → HasTarget targets j u → ContainsExtent (mirrored u) (mirrored t) → u ≡ t)
innermost_is targets t = (
  (λ inner j u has contains. inner j u has (record { begins = contains.ends; ends = contains.begins })),
  (λ inner j u has contains. inner j u has (record { begins = contains.ends; ends = contains.begins })),
)

both : {A B C D : Type 0} → A ↔ C → B ↔ D → (A × B) ↔ (D × C)
both p q = (λ h. (q.0 h.1, p.0 h.0), λ h. (p.1 h.1, q.1 h.0))

chain : {A B C : Type 0} → A ↔ B → B ↔ C → A ↔ C
chain p q = (λ h. q.0 (p.0 h), λ h. p.1 (q.1 h))

-- left to right: to be free of kept targets is to be clear of candidates that stay
free_is_clear : (targets : List (Option Extent)) (sorted : List Candidate) (known : AreCandidatesOf false targets sorted) (up : AreSorted sorted) (answers : List Bool) (kept : List ℕ) (k : ℕ) (t : Extent)
    → k < length sorted → HasTarget targets (row_number_of sorted k) t → ((j : ℕ) → j < k → Contains kept (row_number_of sorted j) ↔ (get_or answers j false ≡ true)) → IsFree targets kept (row_number_of sorted k) t ↔ IsClear sorted answers k
free_is_clear targets sorted known up answers kept k t short has agree =
    let mine : extent_at sorted k ≡ t = extent_is false targets sorted known up k t short has in (
      (λ free j h yes over.
          let own = known.of_target j (omega arith) in
          let theirs : extent_at sorted j ≡ own.0 = own.2 in
          let comes : ComesBefore (row_number_of sorted j) own.0 (row_number_of sorted k) t = subst (λ (u : Extent). ComesBefore (row_number_of sorted j) u (row_number_of sorted k) t) theirs (subst (λ (v : Extent). ComesBefore (row_number_of sorted j) (extent_at sorted j) (row_number_of sorted k) v) mine (up j k h short)) in
          let over' : Overlaps own.0 t = subst (λ (u : Extent). Overlaps u t) theirs (subst (λ (v : Extent). Overlaps (extent_at sorted j) v) mine over) in
          free (row_number_of sorted j) own.0 ((agree j h).1 yes) own.1 comes over'),
      (λ clear j u stays other comes over.
          let at = known.each j u other in
          let there : HasTarget targets (row_number_of sorted at.0) u = ap (λ n. get_or targets n None) at.2 ∙ other in
          let theirs : extent_at sorted at.0 ≡ u = extent_is false targets sorted known up at.0 u at.1 there in
          let comes' : ComesBefore (row_number_of sorted at.0) (extent_at sorted at.0) (row_number_of sorted k) (extent_at sorted k) =
          subst (λ (v : Extent). ComesBefore (row_number_of sorted at.0) (extent_at sorted at.0) (row_number_of sorted k) v) (sym mine) (subst (λ (v : Extent). ComesBefore (row_number_of sorted at.0) v (row_number_of sorted k) t) (sym theirs) (subst (λ n. ComesBefore n u (row_number_of sorted k) t) (sym at.2) comes)) in
          let first : at.0 < k = before sorted up at.0 k at.1 short comes' in
          let over' : Overlaps (extent_at sorted at.0) (extent_at sorted k) = subst (λ (v : Extent). Overlaps (extent_at sorted at.0) v) (sym mine) (subst (λ (v : Extent). Overlaps v t) (sym theirs) over) in
          clear at.0 first ((agree at.0 first).0 (subst (λ n. Contains kept n) (sym at.2) stays)) over'),
    )

-- what the policy asks of a row is what the sweep asks of its candidate
pub allows_is_passes : (policy : Policy) (targets : List (Option Extent)) (sorted : List Candidate) (known : AreCandidatesOf (is_mirrored policy) targets sorted) (up : AreSorted sorted) (answers : List Bool) (kept : List ℕ) (k : ℕ) (t : Extent)
    → k < length sorted → HasTarget targets (row_number_of sorted k) t → ((j : ℕ) → j < k → Contains kept (row_number_of sorted j) ↔ (get_or answers j false ≡ true)) → Allows policy targets kept (row_number_of sorted k) t ↔ Passes policy sorted answers k
allows_is_passes ContainedWithin targets sorted known up answers kept k t short has agree = both (outer_is_uncovered false targets sorted known up k t short has) (first_is_new false targets sorted known up k t short has)
allows_is_passes NotContainedWithin targets sorted known up answers kept k t short has agree = both (chain (innermost_is targets t) (outer_is_uncovered true targets sorted known up k t short has)) (first_is_new true targets sorted known up k t short has)
allows_is_passes ContainsButNotEqual targets sorted known up answers kept k t short has agree = outer_is_uncovered false targets sorted known up k t short has
allows_is_passes ExactMatch targets sorted known up answers kept k t short has agree = first_is_new false targets sorted known up k t short has
allows_is_passes LeftToRight targets sorted known up answers kept k t short has agree = free_is_clear targets sorted known up answers kept k t short has agree
