-- The candidates of a list of targets, as they are made and as they are sorted.
use Rattle.std.proofs.Common.{◌≡◌, ◌≢◌, ℕ, zero, suc, ◌+◌, ◌<◌, ◌≤◌, ◌⊎◌, inl, inr, Bool, List, [], ◌∷◌, ◌++◌, length, get_or, refl, sym, ap, ap₂, ◌∙◌, subst, arith, Option, Some, None, Contains, All, AllPairs, nat_cmp}
use Rattle.std.specs.Cmp.{IsTotalOrder}
use Rattle.std.specs.List.Sorted.{IsPermutation, IsSorted, IsStrictlySortedBy}
use Rattle.std.specs.Ordering.{on, then_cmp, ordering_then, flip_args}
use Rattle.std.specs.declared.cmp.Ordering.{Ordering}
use Rattle.std.specs.declared.cmp.Ordering.TheVariants.{Less, Equal, Greater}
use Rattle.std.proofs.lemmas.Cmp.{nat_cmp_total, on_total, then_total, back_total, ranked}
use Rattle.std.proofs.lemmas.List.{get_or_default}
use Rattle.std.proofs.lemmas.List.Elements.{All-cons, All-weaker, All-from_recursion}
use Rattle.std.proofs.lemmas.List.Kept.{AllPairs-cons}
use Rattle.std.proofs.lemmas.List.Sorted.{All-permutation as moved_all, Contains-permutation}
use Rattle.aql_base.specs.DistinctLists.{IsStrictlySortedBy-from_distinct}
use Rattle.span_token.specs.Extents.{Extent}
use Rattle.span_token.specs.RisingLists.{Contains-here, Contains-there}
use Rattle.span_sets.specs.Consolidation.{HasTarget}
use Rattle.span_sets.specs.Candidates.{facing, candidate_of, candidates_from, nobody, nth, AreSorted, AreCandidatesOf}
use Rattle.span_sets.specs.declared.candidate.Candidate.{Candidate}

pub candidates_from-nil : (mirror : Bool) (i : ℕ) → candidates_from mirror i [] ≡ []
unfolding candidates_from
candidates_from-nil mirror i = refl

-- one more target
pub candidates_from-null : (mirror : Bool) (i : ℕ) (targets : List (Option Extent)) → candidates_from mirror i (targets ++ None ∷ []) ≡ candidates_from mirror i targets
unfolding candidates_from
candidates_from-null mirror i [] = refl
candidates_from-null mirror i (None ∷ targets) = candidates_from-null mirror (i + 1) targets
candidates_from-null mirror i (Some t ∷ targets) = ap (λ cs. candidate_of (facing mirror t) i ∷ cs) (candidates_from-null mirror (i + 1) targets)

pub candidates_from-some : (mirror : Bool) (i j : ℕ) (targets : List (Option Extent)) (t : Extent) → i + length targets ≡ j → candidates_from mirror i (targets ++ Some t ∷ []) ≡ candidates_from mirror i targets ++ candidate_of (facing mirror t) j ∷ []
unfolding candidates_from
candidates_from-some mirror i j [] t e = ap (λ n. candidate_of (facing mirror t) n ∷ []) (omega (arith, e))
candidates_from-some mirror i j (None ∷ targets) t e = candidates_from-some mirror (i + 1) j targets t (omega (arith, e))
candidates_from-some mirror i j (Some u ∷ targets) t e = ap (λ cs. candidate_of (facing mirror u) i ∷ cs) (candidates_from-some mirror (i + 1) j targets t (omega (arith, e)))

-- the candidate of one of the targets, the first of which is that of row i
pub record IsFound (mirror : Bool) (targets : List (Option Extent)) (i : ℕ) (c : Candidate) : Type 0 where
  pub at : ℕ
  pub target : Extent
  pub has : HasTarget targets at target
  pub is : c ≡ candidate_of (facing mirror target) (i + at)

later : (mirror : Bool) (o : Option Extent) (targets : List (Option Extent)) (i : ℕ) (c : Candidate) → IsFound mirror targets (i + 1) c → IsFound mirror (o ∷ targets) i c
later mirror o targets i c h = record { at = suc h.at; target = h.target; has = h.has; is = h.is ∙ ap (candidate_of (facing mirror h.target)) (omega arith) }

pub found : (mirror : Bool) (i : ℕ) (targets : List (Option Extent)) → All (IsFound mirror targets i) (candidates_from mirror i targets)
unfolding candidates_from
found mirror i [] = λ k d h. absurd (omega arith)
found mirror i (None ∷ targets) = All-weaker (IsFound mirror targets (i + 1)) (IsFound mirror (None ∷ targets) i) (later mirror None targets i) (candidates_from mirror (i + 1) targets) (found mirror (i + 1) targets)
found mirror i (Some t ∷ targets) =
    All-cons (IsFound mirror (Some t ∷ targets) i) (candidate_of (facing mirror t) i) (candidates_from mirror (i + 1) targets)
    (record { at = 0; target = t; has = refl; is = ap (candidate_of (facing mirror t)) (omega arith) })
    (All-weaker (IsFound mirror targets (i + 1)) (IsFound mirror (Some t ∷ targets) i) (later mirror (Some t) targets i) (candidates_from mirror (i + 1) targets) (found mirror (i + 1) targets))

-- each target that isn't Null has one
pub listed : (mirror : Bool) (i : ℕ) (targets : List (Option Extent)) (m : ℕ) (t : Extent) → HasTarget targets m t → Contains (candidates_from mirror i targets) (candidate_of (facing mirror t) (i + m))
unfolding candidates_from
listed mirror i [] m t h = absurd (none_some t h)
  where
    none_some : (u : Extent) → ◌≡◌ {A = Option Extent} None (Some u) → ⊥
    none_some u e = cc
listed mirror i (None ∷ targets) zero t h = absurd cc
listed mirror i (Some u ∷ targets) zero t h = let e : u ≡ t = cc in subst (λ c. Contains (candidate_of (facing mirror u) i ∷ candidates_from mirror (i + 1) targets) c) (ap₂ (λ v n. candidate_of (facing mirror v) n) e (omega arith)) (Contains-here (candidate_of (facing mirror u) i) (candidates_from mirror (i + 1) targets))
listed mirror i (None ∷ targets) (suc m) t h = subst (λ n. Contains (candidates_from mirror (i + 1) targets) (candidate_of (facing mirror t) n)) (omega arith) (listed mirror (i + 1) targets m t h)
listed mirror i (Some u ∷ targets) (suc m) t h =
    Contains-there (candidate_of (facing mirror u) i) (candidates_from mirror (i + 1) targets) (candidate_of (facing mirror t) (i + suc m))
    (subst (λ n. Contains (candidates_from mirror (i + 1) targets) (candidate_of (facing mirror t) n)) (omega arith) (listed mirror (i + 1) targets m t h))

row_number_is : (mirror : Bool) (targets : List (Option Extent)) (i : ℕ) (c : Candidate) → IsFound mirror targets i c → i ≤ c.row_number
row_number_is mirror targets i c h = omega (arith, ap (λ (x : Candidate). x.row_number) h.is)

pub distinct : (mirror : Bool) (i : ℕ) (targets : List (Option Extent)) → AllPairs (λ a b. a ≢ b) (candidates_from mirror i targets)
unfolding candidates_from
distinct mirror i [] = λ j k d h short. absurd (omega arith)
distinct mirror i (None ∷ targets) = distinct mirror (i + 1) targets
distinct mirror i (Some t ∷ targets) =
    AllPairs-cons (λ a b. a ≢ b) (candidate_of (facing mirror t) i) (candidates_from mirror (i + 1) targets)
    (All-weaker (IsFound mirror targets (i + 1)) (λ c. candidate_of (facing mirror t) i ≢ c) (λ c h e. absurd (omega (arith, row_number_is mirror targets (i + 1) c h, ap (λ (x : Candidate). x.row_number) e))) (candidates_from mirror (i + 1) targets) (found mirror (i + 1) targets))
    (distinct mirror (i + 1) targets)

-- the order of candidates
abbrev pub candidate_cmp : Candidate → Candidate → Ordering
candidate_cmp = then_cmp (on (λ (c : Candidate). c.near) nat_cmp) (then_cmp (on (λ (c : Candidate). c.far.0) (flip_args nat_cmp)) (on (λ (c : Candidate). c.row_number) nat_cmp))

pub candidate_cmp_total : IsTotalOrder candidate_cmp
candidate_cmp_total = then_total (on_total (λ (c : Candidate). c.near) nat_cmp_total) (then_total (on_total (λ (c : Candidate). c.far.0) (back_total nat_cmp_total)) (on_total (λ (c : Candidate). c.row_number) nat_cmp_total))

pub nat_exact : (m n : ℕ) → nat_cmp m n ≡ Equal → m ≡ n
nat_exact m n e = ranked m n Equal (sym e)

pub nat_less : (m n : ℕ) → nat_cmp m n ≡ Less → m < n
nat_less m n e = ranked m n Less (sym e)

pub then_equal : (o p : Ordering) → ordering_then o p ≡ Equal → (o ≡ Equal) × (p ≡ Equal)
then_equal Less p e = absurd cc
then_equal Equal p e = (refl, e)
then_equal Greater p e = absurd cc

pub then_less : (o p : Ordering) → ordering_then o p ≡ Less → (o ≡ Less) ⊎ ((o ≡ Equal) × (p ≡ Less))
then_less Less p e = inl refl
then_less Equal p e = inr (refl, e)
then_less Greater p e = absurd cc

same_candidate : (c d : Candidate) → c.near ≡ d.near → c.far.0 ≡ d.far.0 → c.row_number ≡ d.row_number → c ≡ d
same_candidate c d e f g = λ i. record { near = e i; far = record { 0 = f i }; row_number = g i }

pub candidate_cmp_exact : (c d : Candidate) → candidate_cmp c d ≡ Equal → c ≡ d
candidate_cmp_exact c d e =
    let first = then_equal (nat_cmp c.near d.near) _ e in
    let second = then_equal (nat_cmp d.far.0 c.far.0) (nat_cmp c.row_number d.row_number) first.1 in
    same_candidate c d (nat_exact c.near d.near first.0) (sym (nat_exact d.far.0 c.far.0 second.0)) (nat_exact c.row_number d.row_number second.1)

-- what the order says of two candidates
candidate_less : (c d : Candidate) → candidate_cmp c d ≡ Less → (c.near < d.near) ⊎ ((c.near ≡ d.near) × ((d.far.0 < c.far.0) ⊎ ((c.far.0 ≡ d.far.0) × (c.row_number < d.row_number))))
candidate_less c d e = elim (then_less (nat_cmp c.near d.near) (ordering_then (nat_cmp d.far.0 c.far.0) (nat_cmp c.row_number d.row_number)) e) [
  | inl h ↦ inl (nat_less c.near d.near h)
  | inr h ↦ inr (
    nat_exact c.near d.near h.0,
    elim (then_less (nat_cmp d.far.0 c.far.0) (nat_cmp c.row_number d.row_number) h.1) [
      | inl g ↦ inl (nat_less d.far.0 c.far.0 g)
      | inr g ↦ inr (sym (nat_exact d.far.0 c.far.0 g.0), nat_less c.row_number d.row_number g.1)
    ],
  )
]

-- in a strictly sorted list each element is less than each later one
pub pairs : {X : Type 0} (cmp : X → X → Ordering) (xs : List X) → IsStrictlySortedBy cmp xs → AllPairs (λ x y. cmp x y ≡ Less) xs
unfolding IsStrictlySortedBy
pairs cmp [] h = λ i j d less short. absurd (omega arith)
pairs cmp (x ∷ xs) h = AllPairs-cons (λ a b. cmp a b ≡ Less) x xs (All-from_recursion (λ b. cmp x b ≡ Less) xs h.0) (pairs cmp xs h.1)

-- a sort puts the candidates in their order
pub AreSorted-from_sort : (mirror : Bool) (targets : List (Option Extent)) (sorted : List Candidate) → IsPermutation (candidates_from mirror 0 targets) sorted → IsSorted candidate_cmp sorted → AreSorted sorted
AreSorted-from_sort mirror targets sorted bag up =
    let strict = IsStrictlySortedBy-from_distinct candidate_cmp_total candidate_cmp_exact (candidates_from mirror 0 targets) sorted (distinct mirror 0 targets) bag up in
    λ j k h short. candidate_less (nth sorted j) (nth sorted k) (pairs candidate_cmp sorted strict j k nobody h short)

-- and they are still those of the targets
pub AreCandidatesOf-from_sort : (mirror : Bool) (targets : List (Option Extent)) (sorted : List Candidate) → IsPermutation (candidates_from mirror 0 targets) sorted → AreCandidatesOf mirror targets sorted
AreCandidatesOf-from_sort mirror targets sorted bag =
    let all : All (IsFound mirror targets 0) sorted = moved_all (IsFound mirror targets 0) (candidates_from mirror 0 targets) sorted bag (found mirror 0 targets) in
    record {
      of_target = λ k short.
          let own = all k nobody short in
          (own.target, ap (λ n. get_or targets n None) (ap (λ (c : Candidate). c.row_number) own.is ∙ none_more own.at) ∙ own.has, ap (λ (c : Candidate). extent_of_candidate c) own.is);
      each = λ i t has.
          let there = Contains-permutation (candidates_from mirror 0 targets) sorted (candidate_of (facing mirror t) (0 + i)) bag (listed mirror 0 targets i t has) in
          (there.0, there.1, ap (λ (c : Candidate). c.row_number) (get_or_default sorted there.0 nobody (candidate_of (facing mirror t) (0 + i)) there.1 ∙ there.2) ∙ none_more i);
    }
  where
    none_more : (n : ℕ) → 0 + n ≡ n
    none_more n = omega arith

    extent_of_candidate : Candidate → Extent
    extent_of_candidate c = record { begin = c.near; end = c.far.0 }
