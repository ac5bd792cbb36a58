-- The shape of a tree: what the grammar asks of it beyond the types of its nodes, whatever its places
-- and texts are.
use Rattle.std.specs.Prelude.{◌≡◌, List, [], ◌∷◌, Option, Some, None, All, ⊤}
use Rattle.aql_syntax.specs.Trees.{Name, Number, Term, column, Item, Group, Spec, pattern, dict, blocks, Query, select, extract, union, minus, Queries, no_queries, more_queries, Source, view, nested, Sources, no_sources, more_sources, Statement, dictionary, create}
use Rattle.aql_syntax.specs.Lists.{queries_in, sources_in}

-- one or more
abbrev pub HasOne : {A : Type 0} → List A → Type 0
HasOne [] = ⊥
HasOne (x ∷ xs) = ⊤

-- two or more
abbrev pub HasTwo : {A : Type 0} → List A → Type 0
HasTwo [] = ⊥
HasTwo (x ∷ xs) = HasOne xs

-- an item has a name, or is a column
abbrev pub HasName : Option Name → Term → Type 0
HasName (Some name) expr = ⊤
HasName None (column at alias name) = ⊤
HasName None expr = ⊥

abbrev pub IsFormedItem : Item → Type 0
IsFormedItem item = HasName item.name item.expr

-- groups: one, or more that all have a number
abbrev pub IsGiven : Option Number → Type 0
IsGiven None = ⊥
IsGiven (Some number) = ⊤

abbrev pub HasNumber : Group → Type 0
HasNumber group = IsGiven group.number

abbrev pub AreFormedGroups : List Group → Type 0
AreFormedGroups [] = ⊥
AreFormedGroups (group ∷ []) = ⊤
AreFormedGroups (group ∷ other ∷ groups) = All HasNumber (group ∷ other ∷ groups)

-- what an extraction looks for, with the items before it: blocks have none
abbrev pub IsFormedSpec : List Item → Spec → Type 0
IsFormedSpec items (pattern text bound alias name groups) = AreFormedGroups groups
IsFormedSpec items (dict table flag alias name out) = ⊤
IsFormedSpec items (blocks count gap tokens alias name out) = items ≡ []

abbrev mutual
  -- a selection has items and sources, a union two sides or more
  pub IsFormedQuery : Query → Type 0
  IsFormedQuery (select at items sources clauses) =
      HasOne items × All IsFormedItem items × HasOne (sources_in sources) × AreFormedSources sources
  IsFormedQuery (extract at items spec source tail) =
      All IsFormedItem items × IsFormedSpec items spec × IsFormedSource source
  IsFormedQuery (union sides) = HasTwo (queries_in sides) × AreFormedQueries sides
  IsFormedQuery (minus left right) = IsFormedQuery left × IsFormedQuery right

  pub AreFormedQueries : Queries → Type 0
  AreFormedQueries no_queries = ⊤
  AreFormedQueries (more_queries query queries) = IsFormedQuery query × AreFormedQueries queries

  pub IsFormedSource : Source → Type 0
  IsFormedSource (view name alias) = ⊤
  IsFormedSource (nested query alias) = IsFormedQuery query

  pub AreFormedSources : Sources → Type 0
  AreFormedSources no_sources = ⊤
  AreFormedSources (more_sources source sources) = IsFormedSource source × AreFormedSources sources

-- a dictionary has entries
abbrev pub IsFormed : Statement → Type 0
IsFormed (dictionary name entries) = HasOne entries
IsFormed (create name query) = IsFormedQuery query
IsFormed statement = ⊤
