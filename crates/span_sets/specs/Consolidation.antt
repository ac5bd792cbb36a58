-- Consolidation: which rows stay, told by the spans of one column.
use Rattle.std.specs.Prelude.{ℕ, ◌≡◌, ◌<◌, ◌↔◌, ◌⊎◌, List, [], Option, Some, None, length, map, option_map, slice_index_or, Contains}
use Rattle.std.specs.List.{zip}
use Rattle.std.specs.List.Sorted.{IsStrictlyIncreasing}
use Rattle.aql_base.specs.Sorting.{sorted_by}
use Rattle.row_values.specs.Datums.{Datum}
use Rattle.row_values.specs.Rows.{RowList, row_cmp}
use Rattle.span_token.specs.Extents.{Extent, extent_of}
use Rattle.span_token.specs.Relations.{ContainsExtent, Overlaps}
use Rattle.span_token.specs.declared.span.Span.{Span}
use Rattle.span_sets.specs.declared.policy.Policy.{Policy}
use Rattle.span_sets.specs.declared.policy.Policy.TheVariants.{ContainedWithin, NotContainedWithin, ContainsButNotEqual, ExactMatch, LeftToRight}

-- a row's target, None for Null
abbrev pub target_of : Option Span → Option Extent
target_of target = option_map extent_of target

-- row i has the target t, which isn't Null
abbrev pub HasTarget : List (Option Extent) → ℕ → Extent → Type 0
HasTarget targets i t = slice_index_or targets i None ≡ Some t

-- no different target contains t
abbrev pub IsOutermost : List (Option Extent) → Extent → Type 0
IsOutermost targets t = (j : ℕ) (u : Extent) → HasTarget targets j u → ContainsExtent u t → u ≡ t

-- t contains no different target
abbrev pub IsInnermost : List (Option Extent) → Extent → Type 0
IsInnermost targets t = (j : ℕ) (u : Extent) → HasTarget targets j u → ContainsExtent t u → u ≡ t

-- no row before row i has the target t too
abbrev pub IsFirstOfEqual : List (Option Extent) → ℕ → Extent → Type 0
IsFirstOfEqual targets i t = (j : ℕ) → j < i → ¬ (HasTarget targets j t)

-- row j with the target u comes before row i with the target t: by lesser begin, then greater end, then row number
abbrev pub ComesBefore : ℕ → Extent → ℕ → Extent → Type 0
ComesBefore j u i t = (u.begin < t.begin) ⊎ ((u.begin ≡ t.begin) × ((t.end < u.end) ⊎ ((u.end ≡ t.end) × (j < i))))

-- no target of a kept row that comes before overlaps t
abbrev pub IsFree : List (Option Extent) → List ℕ → ℕ → Extent → Type 0
IsFree targets kept i t = (j : ℕ) (u : Extent) → Contains kept j → HasTarget targets j u → ComesBefore j u i t → ¬ (Overlaps u t)

-- what a policy asks of row i and its target t, where `kept` are the numbers of the rows that stay
abbrev pub Allows : Policy → List (Option Extent) → List ℕ → ℕ → Extent → Type 0
Allows ContainedWithin targets kept i t = IsOutermost targets t × IsFirstOfEqual targets i t
Allows ContainsButNotEqual targets kept i t = IsOutermost targets t
Allows NotContainedWithin targets kept i t = IsInnermost targets t × IsFirstOfEqual targets i t
Allows ExactMatch targets kept i t = IsFirstOfEqual targets i t
Allows LeftToRight targets kept i t = IsFree targets kept i t

-- row i stays where its target is Null, or the policy allows it
pub record Stays (policy : Policy) (targets : List (Option Extent)) (kept : List ℕ) (i : ℕ) : Type 0 where
  pub there : i < length targets
  pub allowed : (t : Extent) → HasTarget targets i t → Allows policy targets kept i t

-- kept are exactly the numbers of the rows that stay, from the first to the last
pub record IsKept (policy : Policy) (targets : List (Option Extent)) (kept : List ℕ) : Type 0 where
  pub rising : IsStrictlyIncreasing kept
  pub exactly : (i : ℕ) → Contains kept i ↔ Stays policy targets kept i

-- each row with its target, in row order; equal rows keep their order
unfoldable pub in_row_order : List (List Datum) → List (Option Extent) → List (List Datum × Option Extent)
in_row_order rows targets = sorted_by (λ p q. row_cmp p.0 q.0) (zip rows targets)

-- the rows in row order
abbrev pub rows_in_order : List (List Datum) → List (Option Extent) → List (List Datum)
rows_in_order rows targets = map (λ p. p.0) (in_row_order rows targets)

-- the targets of the rows in row order
abbrev pub targets_in_order : List (List Datum) → List (Option Extent) → List (Option Extent)
targets_in_order rows targets = map (λ p. p.1) (in_row_order rows targets)

-- out has, in row order, the rows that stay
pub record IsConsolidated (policy : Policy) (rows : RowList) (targets : List (Option Extent)) (out : RowList) : Type 0 where
  pub kept : List ℕ
  pub stay : IsKept policy (targets_in_order rows.rows targets) kept
  pub rows_are : out.rows ≡ map (λ i. slice_index_or (rows_in_order rows.rows targets) i []) kept
  pub width_is : out.width ≡ rows.width
