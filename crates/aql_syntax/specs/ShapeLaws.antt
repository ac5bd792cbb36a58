-- A statement with tokens has the shape of one; and the shape by lists.
use Rattle.std.proofs.Common.{ℕ, List, [], ◌∷◌, Option, Some, None, All, refl, subst}
use Rattle.std.specs.List.{AllZip}
use Rattle.std.proofs.lemmas.List.Elements.{All-nil, All-cons}
use Rattle.aql_lexer.specs.Kinds.{Kind}
use Rattle.aql_syntax.specs.Spellings.{Spelling, free}
use Rattle.aql_syntax.specs.Parts.{◌▸◌, Symbol, Keyword, Each, Separated}
use Rattle.aql_syntax.specs.Trees.{Name, Number, Term, column, Item, Clauses, Group, Spec, pattern, dict, blocks, Query, select, extract, union, minus, Queries, no_queries, more_queries, as_queries, Source, view, nested, Sources, no_sources, more_sources, as_sources, Statement, module_, require, export, dictionary, create, output}
use Rattle.aql_syntax.specs.Grammar.Expressions.{IsNamed, IsItem}
use Rattle.aql_syntax.specs.Grammar.Extractions.{IsNumbered, AreGroups}
use Rattle.aql_syntax.specs.Grammar.Queries.{AreItemsBefore, IsExtracted, IsQuery, AreLaterSides, IsSource, AreSources, AreLaterSources}
use Rattle.aql_syntax.specs.Grammar.Statements.{IsText, IsStatement}
use Rattle.aql_syntax.specs.Programs.{HasTokens, runs_of, AreTokensOf}
use Rattle.aql_syntax.specs.Lists.{queries_in, queries_in-as_queries, sources_in, sources_in-as_sources}
use Rattle.aql_syntax.specs.Shapes.{HasOne, HasTwo, HasName, IsFormedItem, IsGiven, HasNumber, AreFormedGroups, IsFormedSpec, IsFormedQuery, AreFormedQueries, IsFormedSource, AreFormedSources, IsFormed}

module _ (s : Spelling) where
  named_formed : (expr : Term) (name : Option Name) (ks rest : List Kind) → IsNamed s expr name ks rest → HasName name expr
  named_formed expr (Some name) ks rest h = tt
  named_formed (column at alias name) None ks rest h = tt
  named_formed expr None ks rest h = h

  item_formed : (item : Item) (ks rest : List Kind) → IsItem s item ks rest → IsFormedItem item
  item_formed item ks rest h = named_formed item.expr item.name ks rest h

  later_items : (items : List Item) (ks rest : List Kind) → Each (λ item. Symbol "," ▸ IsItem s item) items ks rest → All IsFormedItem items
  later_items [] ks rest h = All-nil IsFormedItem
  later_items (item ∷ items) ks rest h =
      All-cons IsFormedItem item items (item_formed item h.1.0 h.0 h.1.2) (later_items items h.0 rest h.2)

  items_formed : (items : List Item) (ks rest : List Kind) → Separated (Symbol ",") (IsItem s) items ks rest → HasOne items × All IsFormedItem items
  items_formed [] ks rest h = absurd h
  items_formed (item ∷ items) ks rest h =
      (tt, All-cons IsFormedItem item items (item_formed item ks h.0 h.1) (later_items items h.0 rest h.2))

  items_before : (items : List Item) (ks rest : List Kind) → AreItemsBefore s items ks rest → All IsFormedItem items
  items_before [] ks rest h = All-nil IsFormedItem
  items_before (item ∷ items) ks rest h =
      All-cons IsFormedItem item items (item_formed item ks h.1.0 h.1.1) (items_before items h.0 rest h.2)

  number_given : (number : Option Number) (name : Name) (ks rest : List Kind) → IsNumbered s number name ks rest → IsGiven number
  number_given None name ks rest h = h
  number_given (Some number) name ks rest h = tt

  later_numbered : (groups : List Group) (ks rest : List Kind) → Each (λ group. Keyword s "and" ▸ IsNumbered s group.number group.name) groups ks rest → All HasNumber groups
  later_numbered [] ks rest h = All-nil HasNumber
  later_numbered (group ∷ groups) ks rest h =
      All-cons HasNumber group groups (number_given group.number group.name h.1.0 h.0 h.1.2) (later_numbered groups h.0 rest h.2)

  groups_formed : (groups : List Group) (ks rest : List Kind) → AreGroups s groups ks rest → AreFormedGroups groups
  groups_formed [] ks rest h = h
  groups_formed (group ∷ []) ks rest h = tt
  groups_formed (group ∷ other ∷ groups) ks rest h =
      All-cons HasNumber group (other ∷ groups) (number_given group.number group.name h.0 h.2.0 h.2.1)
      (later_numbered (other ∷ groups) h.2.0 rest h.2.2)

  extracted_formed : (items : List Item) (spec : Spec) (ks rest : List Kind) → IsExtracted s items spec ks rest → All IsFormedItem items × IsFormedSpec items spec
  extracted_formed items (pattern text bound alias name groups) ks rest h =
      (items_before items ks h.0 h.1, groups_formed groups h.2.2.2.2.2.0 rest h.2.2.2.2.2.2)
  extracted_formed items (dict table flag alias name out) ks rest h = (items_before items ks h.0 h.1, tt)
  extracted_formed [] (blocks count gap tokens alias name out) ks rest h = (All-nil IsFormedItem, refl)
  extracted_formed (item ∷ items) (blocks count gap tokens alias name out) ks rest h = absurd h

  mutual
    query_formed : (q : Query) (ks rest : List Kind) → IsQuery s q ks rest → IsFormedQuery q
    query_formed (select at items sources clauses) ks rest h =
        let items = items_formed items h.0 h.2.0 h.2.1 in
        let sources = sources_formed sources h.2.2.0 h.2.2.2.0 h.2.2.2.1 in
        (items.0, items.1, sources.0, sources.1)
    query_formed (extract at items spec source tail) ks rest h =
        let found = extracted_formed items spec h.0 h.2.0 h.2.1 in
        (found.0, found.1, source_formed source h.2.2.0 h.2.2.2.0 h.2.2.2.1)
    query_formed (union sides) ks rest h = sides_formed sides ks rest h
    query_formed (minus left right) ks rest h =
        (query_formed left _ _ h.1.2.1, query_formed right _ _ h.2.2.2.1)

    sides_formed : (qs : Queries) (ks rest : List Kind) → IsQuery s (union qs) ks rest → HasTwo (queries_in qs) × AreFormedQueries qs
    sides_formed no_queries ks rest h = absurd h
    sides_formed (more_queries q no_queries) ks rest h = absurd h.2
    sides_formed (more_queries q (more_queries r qs)) ks rest h =
        (tt, (query_formed q _ _ h.1.2.1, (query_formed r _ _ h.2.2.2.1.2.1, later_sides qs _ _ h.2.2.2.2)))

    later_sides : (qs : Queries) (ks rest : List Kind) → AreLaterSides s qs ks rest → AreFormedQueries qs
    later_sides no_queries ks rest h = tt
    later_sides (more_queries q qs) ks rest h = (query_formed q _ _ h.2.2.1.2.1, later_sides qs _ _ h.2.2.2)

    source_formed : (source : Source) (ks rest : List Kind) → IsSource s source ks rest → IsFormedSource source
    source_formed (view name alias) ks rest h = tt
    source_formed (nested query alias) ks rest h = query_formed query _ _ h.1.2.1

    sources_formed : (ss : Sources) (ks rest : List Kind) → AreSources s ss ks rest → HasOne (sources_in ss) × AreFormedSources ss
    sources_formed no_sources ks rest h = absurd h
    sources_formed (more_sources source ss) ks rest h = (tt, (source_formed source ks h.0 h.1, later_sources ss h.0 rest h.2))

    later_sources : (ss : Sources) (ks rest : List Kind) → AreLaterSources s ss ks rest → AreFormedSources ss
    later_sources no_sources ks rest h = tt
    later_sources (more_sources source ss) ks rest h = (source_formed source _ _ h.2.1, later_sources ss _ _ h.2.2)

  entries_formed : (entries : List (List ℕ)) (ks rest : List Kind) → Separated (Symbol ",") (IsText s) entries ks rest → HasOne entries
  entries_formed [] ks rest h = h
  entries_formed (text ∷ entries) ks rest h = tt

  -- a statement with tokens has the shape of one
  pub statement_formed : (statement : Statement) (ks rest : List Kind) → IsStatement s statement ks rest → IsFormed statement
  statement_formed (module_ name) ks rest h = tt
  statement_formed require ks rest h = tt
  statement_formed (export name) ks rest h = tt
  statement_formed (dictionary name entries) ks rest h = entries_formed entries _ _ h.2.2.2.2.1.2.1
  statement_formed (create name query) ks rest h = query_formed query _ _ h.2.2.2.2.1
  statement_formed (output name alias) ks rest h = tt

each_formed : (statements : List Statement) (runs : List (List Kind)) → AllZip HasTokens statements runs → All IsFormed statements
each_formed [] runs h = All-nil IsFormed
each_formed (statement ∷ statements) [] h = absurd h
each_formed (statement ∷ statements) (run ∷ runs) h =
    All-cons IsFormed statement statements (statement_formed free statement run [] h.0) (each_formed statements runs h.1)

-- the statements of tokens have the shape of statements
pub formed : (kinds : List Kind) (statements : List Statement) → AreTokensOf kinds statements → All IsFormed statements
formed kinds statements h = each_formed statements (runs_of kinds) h.each

all_queries : (qs : List Query) → AreFormedQueries (as_queries qs) → All IsFormedQuery qs
all_queries [] h = All-nil IsFormedQuery
all_queries (q ∷ qs) h = All-cons IsFormedQuery q qs h.0 (all_queries qs h.1)

all_sources : (ss : List Source) → AreFormedSources (as_sources ss) → All IsFormedSource ss
all_sources [] h = All-nil IsFormedSource
all_sources (source ∷ ss) h = All-cons IsFormedSource source ss h.0 (all_sources ss h.1)

-- the shape of a union, by the list of its sides
pub union_formed : (sides : List Query) → IsFormedQuery (union (as_queries sides)) → HasTwo sides × All IsFormedQuery sides
union_formed sides h = (subst (λ (qs : List Query). HasTwo qs) (queries_in-as_queries sides) h.0, all_queries sides h.1)

-- the shape of a selection, by the list of its sources
pub select_formed : (at : ℕ) (items : List Item) (sources : List Source) (clauses : Clauses)
    → IsFormedQuery (select at items (as_sources sources) clauses)
    → HasOne items × All IsFormedItem items × HasOne sources × All IsFormedSource sources
select_formed at items sources clauses h =
    (h.0, h.1, subst (λ (ss : List Source). HasOne ss) (sources_in-as_sources sources) h.2, all_sources sources h.3)
