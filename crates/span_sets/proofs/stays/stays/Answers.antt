use Rattle.std.proofs.Common.{◌≡◌, ℕ, ◌<◌, ◌≤◌, ◌↔◌, Bool, true, false, List, map, length, get_or, Option, Some, None, sym, ap, ◌∙◌, subst, arith}
use Rattle.std.proofs.lemmas.List.{length-map}
use Rattle.std.proofs.Math.ListN.{get_or-map as get_or-map_at}
use Rattle.span_token.specs.Extents.{Extent, extent_of}
use Rattle.span_token.specs.declared.span.Span.{Span}
use Rattle.span_sets.specs.Consolidation.{target_of}
use Rattle.span_sets.specs.Candidates.{row_number_of, near_of, far_of, facing, AreCandidatesOf, Passes, is_mirrored}
use Rattle.span_sets.specs.declared.candidate.Candidate.{Candidate}
use Rattle.span_sets.specs.declared.policy.Policy.{Policy}
use Rattle.span_sets.specs.declared.policy.Policy.TheVariants.{LeftToRight}
use Rattle.span_sets.specs.LawProofs.Policies.{numbers_apart}
use Rattle.span_sets.specs.LawProofs.Keeping.{IsKept-marked, IsKept-unique}
use Rattle.span_sets.proofs.stays.stays.Goals as goal

-- spans begin before they end
span_ordered : (o : Option Span) (t : Extent) → target_of o ≡ Some t → t.begin ≤ t.end
span_ordered None t e = absurd cc
span_ordered (Some s) t e = let is : extent_of s ≡ t = cc in omega (arith, s.ordered, ap (λ (x : Extent). x.begin) is, ap (λ (x : Extent). x.end) is)

ordered_by : (policy : Policy) (targets : List (Option Span)) (sorted : List Candidate) → AreCandidatesOf (is_mirrored policy) (map target_of targets) sorted → policy ≡ LeftToRight → (k : ℕ) → k < length sorted → near_of sorted k ≤ far_of sorted k
ordered_by policy targets sorted known e k short =
    let own = known.of_target k short in
    let is = own.2 ∙ ap (λ (p : Policy). facing (is_mirrored p) own.0) e in
    omega (arith, span_ordered (get_or targets (row_number_of sorted k) None) own.0 (sym (get_or-map_at target_of targets (row_number_of sorted k) None) ∙ own.1), ap (λ (x : Extent). x.begin) is, ap (λ (x : Extent). x.end) is)

known_by : (policy : Policy) (mirror : Bool) (targets : List (Option Extent)) (sorted : List Candidate) → mirror ≡ is_mirrored policy → AreCandidatesOf mirror targets sorted → AreCandidatesOf (is_mirrored policy) targets sorted
known_by policy mirror targets sorted e h = subst (λ (m : Bool). AreCandidatesOf m targets sorted) e h

pub answers-requires-clause-ordered : goal.answers-requires-clause-ordered
answers-requires-clause-ordered c = λ e.
    rw (c.as_slice.ensures.value) (ordered_by c.args.policy c.args.targets.now c.in_ok-sorted.sorted.items (known_by c.args.policy c.goes_by_end.result (map target_of c.args.targets.now) c.in_ok-sorted.sorted.items c.goes_by_end.ensures c.in_ok-sorted.ensures.known) e)

pub marks-requires-clause-known : goal.marks-requires-clause-known
marks-requires-clause-known c =
    rw (c.as_slice-2.ensures.value) (λ k short. let own = c.in_ok-sorted.ensures.known.of_target k short in (own.0, own.1))

pub marks-requires-clause-apart : goal.marks-requires-clause-apart
marks-requires-clause-apart c =
    rw (c.as_slice-2.ensures.value) (numbers_apart c.goes_by_end.result (map target_of c.args.targets.now) c.in_ok-sorted.sorted.items c.in_ok-sorted.ensures.known c.in_ok-sorted.ensures.sorted)

pub returns-clause-kept : goal.returns-clause-kept
returns-clause-kept c =
    let policy : Policy = c.args.policy in
    let targets : List (Option Extent) = map target_of c.args.targets.now in
    let sorted : List Candidate = c.in_ok-sorted.sorted.items in
    let answers : List Bool = c.in_ok-answers.answers.items in
    let marks : List Bool = c.in_ok-marks.marks.items in
    let known = known_by policy c.goes_by_end.result targets sorted c.goes_by_end.ensures c.in_ok-sorted.ensures.known in
    let passes : (k : ℕ) → k < length sorted → (get_or answers k false ≡ true) ↔ Passes policy sorted answers k =
    subst (λ (s : List Candidate). (k : ℕ) → k < length s → (get_or answers k false ≡ true) ↔ Passes policy s answers k) c.as_slice.ensures.value c.in_ok-answers.ensures.answers in
    let answered : (k : ℕ) → k < length sorted → get_or marks (row_number_of sorted k) false ≡ get_or answers k false =
    subst (λ (bs : List Bool). (k : ℕ) → k < length sorted → get_or marks (row_number_of sorted k) false ≡ get_or bs k false) c.as_slice-3.ensures.value
    (subst (λ (s : List Candidate). (k : ℕ) → k < length s → get_or marks (row_number_of s k) false ≡ get_or c.as_slice-3.result.now k false) c.as_slice-2.ensures.value c.in_ok-marks.ensures.answered) in
    let many = length-map c.args.targets.now target_of in
    IsKept-marked policy targets sorted known c.in_ok-sorted.ensures.sorted answers passes marks (c.in_ok-marks.ensures.number ∙ sym many) (λ i short null. c.in_ok-marks.ensures.null i (omega (arith, short, many)) null) answered

pub returns-clause-only : goal.returns-clause-only
returns-clause-only c = λ other is.
    let policy : Policy = c.args.policy in
    let targets : List (Option Extent) = map target_of c.args.targets.now in
    let sorted : List Candidate = c.in_ok-sorted.sorted.items in
    let answers : List Bool = c.in_ok-answers.answers.items in
    let known = known_by policy c.goes_by_end.result targets sorted c.goes_by_end.ensures c.in_ok-sorted.ensures.known in
    let passes : (k : ℕ) → k < length sorted → (get_or answers k false ≡ true) ↔ Passes policy sorted answers k =
    subst (λ (s : List Candidate). (k : ℕ) → k < length s → (get_or answers k false ≡ true) ↔ Passes policy s answers k) c.as_slice.ensures.value c.in_ok-answers.ensures.answers in
    IsKept-unique policy targets sorted known c.in_ok-sorted.ensures.sorted answers passes other _ is (returns-clause-kept c)
