-- Consolidation as a function: the rules of the policies as tests, and the rows that stay.
use Rattle.std.specs.Prelude.{ℕ, zero, suc, Bool, true, not, ◌&&◌, ◌||◌, ◌==◌, nat_lt, List, [], ◌∷◌, Option, Some, None, length, map, filter, slice_index_or}
use Rattle.std.specs.List.{list_any, range_with_len}
use Rattle.row_values.specs.Datums.{Datum}
use Rattle.span_token.specs.Extents.{Extent}
use Rattle.span_token.specs.Relations.{does_contain, do_overlap}
use Rattle.span_sets.specs.Consolidation.{rows_in_order, targets_in_order}
use Rattle.span_sets.specs.declared.policy.Policy.{Policy}
use Rattle.span_sets.specs.declared.policy.Policy.TheVariants.{ContainedWithin, NotContainedWithin, ContainsButNotEqual, ExactMatch, LeftToRight}

-- each target that isn't Null passes the test, with its row's number; the first row's is i
abbrev pub each_passes : (ℕ → Extent → Bool) → ℕ → List (Option Extent) → Bool
each_passes passes i [] = true
each_passes passes i (None ∷ targets) = each_passes passes (suc i) targets
each_passes passes i (Some t ∷ targets) = passes i t && each_passes passes (suc i) targets

-- two spans are one
abbrev pub are_same : Extent → Extent → Bool
are_same u t = u.begin == t.begin && u.end == t.end

-- `IsOutermost` as a test
abbrev pub is_outermost : List (Option Extent) → Extent → Bool
is_outermost targets t = each_passes (λ j u. not (does_contain u t) || are_same u t) 0 targets

-- `IsInnermost` as a test
abbrev pub is_innermost : List (Option Extent) → Extent → Bool
is_innermost targets t = each_passes (λ j u. not (does_contain t u) || are_same u t) 0 targets

-- `IsFirstOfEqual` as a test
abbrev pub is_first_of_equal : List (Option Extent) → ℕ → Extent → Bool
is_first_of_equal targets i t = each_passes (λ j u. not (nat_lt j i && are_same u t)) 0 targets

-- `ComesBefore` as a test
abbrev pub does_come_before : ℕ → Extent → ℕ → Extent → Bool
does_come_before j u i t = nat_lt u.begin t.begin || (u.begin == t.begin && (nat_lt t.end u.end || (u.end == t.end && nat_lt j i)))

-- `IsFree` as a test
abbrev pub is_free : List (Option Extent) → List ℕ → ℕ → Extent → Bool
is_free targets kept i t = each_passes (λ j u. not (list_any (λ k. k == j) kept && (does_come_before j u i t && do_overlap u t))) 0 targets

-- `Allows` as a test
abbrev pub does_allow : Policy → List (Option Extent) → List ℕ → ℕ → Extent → Bool
does_allow ContainedWithin targets kept i t = is_outermost targets t && is_first_of_equal targets i t
does_allow ContainsButNotEqual targets kept i t = is_outermost targets t
does_allow NotContainedWithin targets kept i t = is_innermost targets t && is_first_of_equal targets i t
does_allow ExactMatch targets kept i t = is_first_of_equal targets i t
does_allow LeftToRight targets kept i t = is_free targets kept i t

-- row i stays where its target is Null, or the policy allows it
abbrev pub does_stay : Policy → List (Option Extent) → List ℕ → ℕ → Option Extent → Bool
does_stay policy targets kept i None = true
does_stay policy targets kept i (Some t) = does_allow policy targets kept i t

-- the numbers of the rows that stay where those of the round before stay, from no rows on
abbrev pub kept_after : ℕ → Policy → List (Option Extent) → List ℕ
kept_after zero policy targets = []
kept_after (suc n) policy targets = filter (λ i. does_stay policy targets (kept_after n policy targets) i (slice_index_or targets i None)) (range_with_len 0 (length targets))

-- the numbers of the rows that stay: a round more than there are rows settles each
unfoldable pub kept_numbers : Policy → List (Option Extent) → List ℕ
kept_numbers policy targets = kept_after (suc (length targets)) policy targets

-- the rows that stay, in row order, each with its target
unfoldable pub consolidated_by : Policy → List (List Datum) → List (Option Extent) → List (List Datum)
consolidated_by policy rows targets = map (λ i. slice_index_or (rows_in_order rows targets) i []) (kept_numbers policy (targets_in_order rows targets))

-- the rows that stay, where the target is told by the row
abbrev pub consolidated : Policy → (List Datum → Option Extent) → List (List Datum) → List (List Datum)
consolidated policy target rows = consolidated_by policy rows (map target rows)
