-- What is asked of a query, so that it can be evaluated and its rows have one width: the sides of a union and of a
-- difference have one, blocks have no items; each aggregate names a key or an argument, each order key a column, a
-- run of tokens has one token or more, and every column that an expression or an extraction reads is there.
use Rattle.std.specs.Prelude.{ℕ, ◌+◌, ◌<◌, ◌≤◌, ◌≡◌, List, [], ◌∷◌, ◌++◌, length, All, slice_index_or, Option, IfSome}
use Rattle.group_agg.specs.Groups.{HasKey, HasColumn}
use Rattle.scalar_ops.specs.Expressions.{Term, ReadsBelow}
use Rattle.aql_typed.specs.Trees.{Consolidation, Projection, plain, grouped_by, SelectClauses, Extraction, regex, token_regex, dict, blocks, ExtractClauses, Query, select, extract, union, minus, Queries, no_queries, more_queries, Source, document, view, nested, Sources, no_sources, more_sources}

-- the number of columns that a projection gives
abbrev pub projection_width : Projection → ℕ
projection_width (plain items) = length items
projection_width (grouped_by keys arguments aggregates) = length aggregates

-- the number of columns that are found
abbrev pub found_width : Extraction → ℕ
found_width (regex column p groups) = length groups
found_width (token_regex column low high p groups) = length groups
found_width (dict column d) = 1
found_width (blocks column low high from to tokens) = 1

-- blocks have no items
abbrev pub extract_width : ExtractClauses → ℕ
extract_width clauses = length clauses.items + found_width clauses.extraction

abbrev pub FitsProjection : Projection → Type 0
FitsProjection (plain items) = Unit {0}
FitsProjection (grouped_by keys arguments aggregates) =
    All (HasKey (length keys)) aggregates × All (HasColumn (length (keys ++ arguments))) aggregates

abbrev pub FitsExtraction : ExtractClauses → Extraction → Type 0
FitsExtraction clauses (token_regex column low high p groups) = 1 ≤ low
FitsExtraction clauses (blocks column low high from to tokens) = clauses.items ≡ []
FitsExtraction clauses extraction = Unit {0}

abbrev pub FitsSelect : SelectClauses → Type 0
FitsSelect clauses = FitsProjection clauses.projection × All (λ column. column < projection_width clauses.projection) clauses.order

-- the expressions of a projection: its items, or its keys and the arguments of its aggregates
abbrev pub projected_terms : Projection → List Term
projected_terms (plain items) = items
projected_terms (grouped_by keys arguments aggregates) = keys ++ arguments

-- the target of a consolidation, if there is one, reads columns below a width
abbrev pub TargetReads : ℕ → Option Consolidation → Type 0
TargetReads width consolidate = IfSome consolidate (λ c. ReadsBelow width c.target)

-- what a selection reads is there, among so many columns of its sources
pub record SelectReads (width : ℕ) (clauses : SelectClauses) : Type 0 where
  pub conds : All (ReadsBelow width) clauses.conds
  pub target : TargetReads width clauses.consolidate
  pub items : All (ReadsBelow width) (projected_terms clauses.projection)

-- the column in which an extraction searches
abbrev pub searched_column : Extraction → ℕ
searched_column (regex column p groups) = column
searched_column (token_regex column low high p groups) = column
searched_column (dict column d) = column
searched_column (blocks column low high from to tokens) = column

-- what an extraction reads is there, among so many columns of its source; its conditions and its target read the items
-- and what is found
pub record ExtractReads (width : ℕ) (clauses : ExtractClauses) : Type 0 where
  pub column : searched_column clauses.extraction < width
  pub items : All (ReadsBelow width) clauses.items
  pub conds : All (ReadsBelow (extract_width clauses)) clauses.conds
  pub target : TargetReads (extract_width clauses) clauses.consolidate

module _ (widths : List ℕ) where
  abbrev mutual
    -- the number of columns of a query, where `widths` has those of the views by their numbers
    pub width_of : Query → ℕ
    width_of (select _ clauses) = projection_width clauses.projection
    width_of (extract _ clauses) = extract_width clauses
    width_of (union sides) = first_width sides
    width_of (minus left _) = width_of left

    -- the number of columns of the first side
    pub first_width : Queries → ℕ
    first_width no_queries = 0
    first_width (more_queries side sides) = width_of side

    pub source_width : Source → ℕ
    source_width document = 1
    source_width (view n) = slice_index_or widths n 0
    source_width (nested query) = width_of query

  abbrev pub all_widths : Sources → ℕ
  all_widths no_sources = 0
  all_widths (more_sources source sources) = source_width source + all_widths sources

  abbrev mutual
    pub Fits : Query → Type 0
    Fits (select sources clauses) = AllSourcesFit sources × FitsSelect clauses × SelectReads (all_widths sources) clauses
    Fits (extract source clauses) = SourceFits source × FitsExtraction clauses clauses.extraction × ExtractReads (source_width source) clauses
    Fits (union sides) = SidesFit (first_width sides) sides
    Fits (minus left right) = Fits left × Fits right × (width_of right ≡ width_of left)

    pub SidesFit : ℕ → Queries → Type 0
    SidesFit width no_queries = Unit {0}
    SidesFit width (more_queries side sides) = Fits side × (width_of side ≡ width) × SidesFit width sides

    pub SourceFits : Source → Type 0
    SourceFits document = Unit {0}
    SourceFits (view n) = n < length widths
    SourceFits (nested query) = Fits query

    pub AllSourcesFit : Sources → Type 0
    AllSourcesFit no_sources = Unit {0}
    AllSourcesFit (more_sources source sources) = SourceFits source × AllSourcesFit sources

-- the widths of the views, by their numbers: each stands on those before it
abbrev pub widths_from : List ℕ → List Query → List ℕ
widths_from widths [] = widths
widths_from widths (body ∷ bodies) = widths_from (widths ++ width_of widths body ∷ []) bodies

abbrev pub widths_of : List Query → List ℕ
widths_of bodies = widths_from [] bodies

-- each view fits where the views before it have their widths
abbrev pub AllFit : List ℕ → List Query → Type 0
AllFit widths [] = Unit {0}
AllFit widths (body ∷ bodies) = Fits widths body × AllFit (widths ++ width_of widths body ∷ []) bodies
