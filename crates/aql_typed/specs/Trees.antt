-- The typed tree as definitions see it.
use Rattle.std.specs.Prelude.{ℕ, ℤ, Bool, List, [], ◌∷◌, Option}
use Rattle.group_agg.specs.declared.agg.Agg.{Agg}
use Rattle.span_sets.specs.declared.policy.Policy.{Policy}
use Rattle.scalar_ops.specs.Expressions.{Term}

-- a policy, and the expression whose span is a row's target
pub record Consolidation : Type 0 where
  pub policy : Policy
  pub target : Term

-- the columns of a selection: an expression each, or the keys of groups, the arguments of aggregates, and the
-- aggregates over the columns of keys and arguments
pub data Projection : Type 0 where
  plain : List Term → Projection
  grouped_by : List Term → List Term → List Agg → Projection

-- what a selection does with the combinations of its sources' rows
pub record SelectClauses : Type 0 where
  pub conds : List Term
  pub consolidate : Option Consolidation
  pub projection : Projection
  pub order : List ℕ
  pub limit : Option ℕ

-- what an extraction looks for: a pattern with its groups in the column, runs of low to high tokens with the same, a
-- dictionary, or blocks of low to high spans with gaps from .. to .., counted in tokens or in characters
pub data Extraction : Type 0 where
  regex : ℕ → ℕ → List ℕ → Extraction
  token_regex : ℕ → ℕ → ℕ → ℕ → List ℕ → Extraction
  dict : ℕ → ℕ → Extraction
  blocks : ℕ → ℕ → ℕ → ℤ → ℤ → Bool → Extraction

-- what an extraction does with the rows of its source
pub record ExtractClauses : Type 0 where
  pub items : List Term
  pub extraction : Extraction
  pub conds : List Term
  pub consolidate : Option Consolidation
  pub limit : Option ℕ

mutual
  pub data Query : Type 0 where
    select : Sources → SelectClauses → Query
    extract : Source → ExtractClauses → Query
    union : Queries → Query
    minus : Query → Query → Query

  -- the sides of a union
  pub data Queries : Type 0 where
    no_queries : Queries
    more_queries : Query → Queries → Queries

  -- the document, a view by its number, or a query
  pub data Source : Type 0 where
    document : Source
    view : ℕ → Source
    nested : Query → Source

  pub data Sources : Type 0 where
    no_sources : Sources
    more_sources : Source → Sources → Sources

-- a list as sides, as sources, and back
abbrev pub as_queries : List Query → Queries
as_queries [] = no_queries
as_queries (q ∷ qs) = more_queries q (as_queries qs)

abbrev pub as_sources : List Source → Sources
as_sources [] = no_sources
as_sources (s ∷ ss) = more_sources s (as_sources ss)

abbrev pub queries_in : Queries → List Query
queries_in no_queries = []
queries_in (more_queries q qs) = q ∷ queries_in qs

abbrev pub sources_in : Sources → List Source
sources_in no_sources = []
sources_in (more_sources s ss) = s ∷ sources_in ss
