-- What a sweep works on: the spans of one column with the numbers of their rows, sorted.
use Rattle.std.specs.Prelude.{ℕ, ◌+◌, ◌≡◌, ◌<◌, ◌≤◌, ◌⊎◌, Bool, true, false, List, [], ◌∷◌, Option, Some, None, length, slice_index_or, filter}
use Rattle.std.specs.List.{range_with_len}
use Rattle.span_token.specs.Extents.{Extent}
use Rattle.span_token.specs.Relations.{Overlaps}
use Rattle.span_sets.specs.Consolidation.{HasTarget}
use Rattle.span_sets.specs.declared.candidate.Candidate.{Candidate}
use Rattle.span_sets.specs.declared.policy.Policy.{Policy}
use Rattle.span_sets.specs.declared.policy.Policy.TheVariants.{ContainedWithin, NotContainedWithin, ContainsButNotEqual, ExactMatch, LeftToRight}

-- the extent with its ends exchanged: of two, one contains the other where the exchanged ones contain each other the other way
abbrev pub mirrored : Extent → Extent
mirrored t = record { begin = t.end; end = t.begin }

-- the extent by which a sweep compares
abbrev pub facing : Bool → Extent → Extent
facing false t = t
facing true t = mirrored t

-- the candidate of a target and its row's number
abbrev pub candidate_of : Extent → ℕ → Candidate
candidate_of t i = record { near = t.begin; far = record { 0 = t.end }; row_number = i }

-- those of all targets that aren't Null, the first of which is that of row i
unfoldable pub candidates_from : Bool → ℕ → List (Option Extent) → List Candidate
candidates_from mirror i [] = []
candidates_from mirror i (None ∷ targets) = candidates_from mirror (i + 1) targets
candidates_from mirror i (Some t ∷ targets) = candidate_of (facing mirror t) i ∷ candidates_from mirror (i + 1) targets

-- past the end of a list of candidates
abbrev pub nobody : Candidate
nobody = record { near = 0; far = record { 0 = 0 }; row_number = 0 }

-- candidate k
abbrev pub nth : List Candidate → ℕ → Candidate
nth sorted k = slice_index_or sorted k nobody

-- its nearer end
abbrev pub near_of : List Candidate → ℕ → ℕ
near_of sorted k = (nth sorted k).near

-- its farther end
abbrev pub far_of : List Candidate → ℕ → ℕ
far_of sorted k = (nth sorted k).far.0

-- the number of its row
abbrev pub row_number_of : List Candidate → ℕ → ℕ
row_number_of sorted k = (nth sorted k).row_number

-- its two ends
abbrev pub extent_at : List Candidate → ℕ → Extent
extent_at sorted k = record { begin = near_of sorted k; end = far_of sorted k }

-- each comes before the later ones: by the nearer end, then the farther end downwards, then row number
abbrev pub AreSorted : List Candidate → Type 0
AreSorted sorted = (j k : ℕ) → j < k → k < length sorted →
    (near_of sorted j < near_of sorted k) ⊎ ((near_of sorted j ≡ near_of sorted k) × ((far_of sorted k < far_of sorted j) ⊎ ((far_of sorted j ≡ far_of sorted k) × (row_number_of sorted j < row_number_of sorted k))))

-- two candidates have one span
abbrev pub AreAlike : List Candidate → ℕ → ℕ → Type 0
AreAlike sorted j k = (near_of sorted j ≡ near_of sorted k) × (far_of sorted j ≡ far_of sorted k)

-- no candidate before k has its span
abbrev pub IsNew : List Candidate → ℕ → Type 0
IsNew sorted k = (j : ℕ) → j < k → ¬ (AreAlike sorted j k)

-- each candidate before k that reaches as far as k has its span
abbrev pub IsUncovered : List Candidate → ℕ → Type 0
IsUncovered sorted k = (j : ℕ) → j < k → far_of sorted k ≤ far_of sorted j → AreAlike sorted j k

-- by the answers so far, no candidate before k that stays overlaps it
abbrev pub IsClear : List Candidate → List Bool → ℕ → Type 0
IsClear sorted answers k = (j : ℕ) → j < k → slice_index_or answers j false ≡ true → ¬ (Overlaps (extent_at sorted j) (extent_at sorted k))

-- what a policy asks of candidate k, by the answers so far
abbrev pub Passes : Policy → List Candidate → List Bool → ℕ → Type 0
Passes ContainedWithin sorted answers k = IsNew sorted k × IsUncovered sorted k
Passes NotContainedWithin sorted answers k = IsNew sorted k × IsUncovered sorted k
Passes ContainsButNotEqual sorted answers k = IsUncovered sorted k
Passes ExactMatch sorted answers k = IsNew sorted k
Passes LeftToRight sorted answers k = IsClear sorted answers k

-- the candidates are those of the targets that aren't Null, each once
pub record AreCandidatesOf (mirror : Bool) (targets : List (Option Extent)) (candidates : List Candidate) : Type 0 where
  pub of_target : (k : ℕ) → k < length candidates → (t : Extent) × HasTarget targets (row_number_of candidates k) t × (extent_at candidates k ≡ facing mirror t)
  pub each : (i : ℕ) (t : Extent) → HasTarget targets i t → (k : ℕ) × (k < length candidates) × (row_number_of candidates k ≡ i)

-- only under this policy the end is the nearer of a target's two ends
abbrev pub is_mirrored : Policy → Bool
is_mirrored NotContainedWithin = true
is_mirrored policy = false

-- the numbers whose marks are true
abbrev pub marked_numbers : List Bool → List ℕ
marked_numbers marks = filter (λ i. slice_index_or marks i false) (range_with_len 0 (length marks))
