-- The tree as definitions see it: texts as their bytes, numbers without bounds.
-- `at` is the number of a node's first token, from 0.
use Rattle.std.specs.Prelude.{ℕ, ℤ, Bool, List, [], ◌∷◌, Option}

-- a name, or a text that stands in a name's place
pub record Name : Type 0 where
  pub text : List ℕ
  pub at : ℕ

-- an integer
pub record Number : Type 0 where
  pub value : ℤ
  pub at : ℕ

-- an expression, with its place first
mutual
  pub data Term : Type 0 where
    int : ℕ → ℤ → Term
    str : ℕ → List ℕ → Term
    regex : ℕ → List ℕ → Term
    column : ℕ → Name → Name → Term
    bare : ℕ → Name → Term
    call : ℕ → List ℕ → Terms → Term
    star : ℕ → List ℕ → Term

  -- the arguments of a call
  pub data Terms : Type 0 where
    no_terms : Terms
    more_terms : Term → Terms → Terms

abbrev pub as_terms : List Term → Terms
as_terms [] = no_terms
as_terms (t ∷ ts) = more_terms t (as_terms ts)

-- a column as it is, or an expression with a name
pub record Item : Type 0 where
  pub expr : Term
  pub name : Option Name

-- `consolidate on target`, and the policy's text where one is written
pub record Cons : Type 0 where
  pub target : Term
  pub policy : Option Name

-- the clauses of a selection after its sources; one that isn't there is `[]` or `None`
pub record Clauses : Type 0 where
  pub conds : List Term
  pub cons : Option Cons
  pub group : List Term
  pub order : List Term
  pub limit : Option Number

-- the clauses of an extraction after its source
pub record Tail : Type 0 where
  pub conds : List Term
  pub cons : Option Cons
  pub limit : Option Number

-- one integer, which is both ends, or `between` two
pub data Range : Type 0 where
  one : Number → Range
  two : Number → Number → Range

-- a group of a pattern and the name of its column; `None` is the form `as name`, group 0
pub record Group : Type 0 where
  pub number : Option Number
  pub name : Name

-- how a dictionary's entries are compared
pub data Flag : Type 0 where
  exact : Flag
  ignore_case : Flag

-- what an extraction looks for in the column `alias.column`
pub data Spec : Type 0 where
  pattern : Name → Option Range → Name → Name → List Group → Spec
  dict : Name → Option Flag → Name → Name → Name → Spec
  blocks : Range → Range → Bool → Name → Name → Name → Spec

-- a query: a selection or an extraction, with its place first, or queries put together
mutual
  pub data Query : Type 0 where
    select : ℕ → List Item → Sources → Clauses → Query
    extract : ℕ → List Item → Spec → Source → Tail → Query
    union : Queries → Query
    minus : Query → Query → Query

  -- the sides of a union
  pub data Queries : Type 0 where
    no_queries : Queries
    more_queries : Query → Queries → Queries

  -- a view, whose alias may be left out, or a query in parentheses
  pub data Source : Type 0 where
    view : Name → Option Name → Source
    nested : Query → Name → Source

  pub data Sources : Type 0 where
    no_sources : Sources
    more_sources : Source → Sources → Sources

abbrev pub as_queries : List Query → Queries
as_queries [] = no_queries
as_queries (q ∷ qs) = more_queries q (as_queries qs)

abbrev pub as_sources : List Source → Sources
as_sources [] = no_sources
as_sources (s ∷ ss) = more_sources s (as_sources ss)

pub data Statement : Type 0 where
  module_ : Name → Statement
  require : Statement
  export : Name → Statement
  dictionary : Name → List (List ℕ) → Statement
  create : Name → Query → Statement
  output : Name → Option (List ℕ) → Statement
