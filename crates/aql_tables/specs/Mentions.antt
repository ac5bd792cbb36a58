-- The patterns and dictionaries that a program mentions, in the order of the text.
use Rattle.std.specs.Prelude.{ℕ, Bool, true, false, if◌then◌else◌, List, [], ◌∷◌, ◌++◌, Option, Some, None, map, flat_map, codes}
use Rattle.std.specs.Str.{bytes_eq}
use Rattle.aql_syntax.specs.Trees.{Term, str, regex, call, Terms, no_terms, more_terms, Item, Cons, Clauses, Tail, Flag, exact, ignore_case, Spec, pattern, dict, Query, select, extract, union, minus, Queries, no_queries, more_queries, Source, view, nested, Sources, no_sources, more_sources, Statement, create}
use Rattle.aql_syntax.specs.Naming.{is_dictionary_predicate}

-- a text that stands as a pattern, or a name that stands for a dictionary and whether case counts there
pub data Mention : Type 0 where
  of_pattern : List ℕ → Mention
  of_dictionary : List ℕ → Bool → Mention

-- the name as a dictionary's, with each of these
abbrev pub with_flags : List ℕ → List Bool → List Mention
with_flags name = map (of_dictionary name)

-- both ways in which a dictionary is compared
abbrev pub both_flags : List Bool
both_flags = false ∷ true ∷ []

-- how the flag that is written compares; what is no text may stand for either
abbrev pub flags_of : Term → List Bool
flags_of (str at flag) = bytes_eq flag (codes "Exact") ∷ []
flags_of term = both_flags

-- how a predicate compares its dictionary, by the arguments after the first: where there are two or more, the first of
-- them is the flag, and else case doesn't count
abbrev pub flags_in : Terms → List Bool
flags_in (more_terms flag (more_terms term terms)) = flags_of flag
flags_in terms = false ∷ []

-- the dictionary that a call mentions: a text that is the first argument of such a predicate
abbrev pub mentions_in_arguments : List ℕ → Terms → List Mention
mentions_in_arguments name (more_terms (str at text) rest) =
    if is_dictionary_predicate name then with_flags text (flags_in rest) else []
mentions_in_arguments name terms = []

-- what an expression mentions, each as often as it stands there
abbrev mutual
  pub mentions_in_term : Term → List Mention
  mentions_in_term (regex at text) = of_pattern text ∷ []
  mentions_in_term (call at name args) = mentions_in_arguments name args ++ mentions_in_terms args
  mentions_in_term term = []

  pub mentions_in_terms : Terms → List Mention
  mentions_in_terms no_terms = []
  mentions_in_terms (more_terms term terms) = mentions_in_term term ++ mentions_in_terms terms

-- the dictionary that an item's name may stand for elsewhere: a text, compared either way
abbrev pub mentions_in_text : Term → List Mention
mentions_in_text (str at text) = with_flags text both_flags
mentions_in_text term = []

-- what an item of a selection mentions, and what it mentions where its name stands for it
abbrev pub mentions_in_item : Item → List Mention
mentions_in_item item = mentions_in_text item.expr ++ mentions_in_term item.expr

-- what an item of an extraction mentions
abbrev pub mentions_in_column : Item → List Mention
mentions_in_column item = mentions_in_term item.expr

-- what the target of a consolidation mentions, where there is one
abbrev pub mentions_in_cons : Option Cons → List Mention
mentions_in_cons None = []
mentions_in_cons (Some cons) = mentions_in_term cons.target

-- whether case counts for an extraction's dictionary; it doesn't where nothing is said
abbrev pub is_exact : Option Flag → Bool
is_exact (Some exact) = true
is_exact (Some ignore_case) = false
is_exact None = false

-- the pattern or dictionary that an extraction looks for
abbrev pub mentions_in_spec : Spec → List Mention
mentions_in_spec (pattern text bound alias field groups) = of_pattern text.text ∷ []
mentions_in_spec (dict name flag alias field out) = of_dictionary name.text (is_exact flag) ∷ []
mentions_in_spec spec = []

-- what a selection's clauses after its sources mention
abbrev pub mentions_in_clauses : Clauses → List Mention
mentions_in_clauses clauses =
    flat_map mentions_in_term clauses.conds ++ (mentions_in_cons clauses.cons
    ++ (flat_map mentions_in_term clauses.group ++ flat_map mentions_in_term clauses.order))

-- what an extraction's clauses after its source mention
abbrev pub mentions_in_tail : Tail → List Mention
mentions_in_tail tail = flat_map mentions_in_term tail.conds ++ mentions_in_cons tail.cons

-- what a query mentions, nested queries included
abbrev mutual
  pub mentions_in_query : Query → List Mention
  mentions_in_query (select at items sources clauses) =
      flat_map mentions_in_item items ++ (mentions_in_sources sources ++ mentions_in_clauses clauses)
  mentions_in_query (extract at items spec source tail) =
      flat_map mentions_in_column items ++ (mentions_in_spec spec ++ (mentions_in_source source ++ mentions_in_tail tail))
  mentions_in_query (union sides) = mentions_in_queries sides
  mentions_in_query (minus left right) = mentions_in_query left ++ mentions_in_query right

  pub mentions_in_queries : Queries → List Mention
  mentions_in_queries no_queries = []
  mentions_in_queries (more_queries query queries) = mentions_in_query query ++ mentions_in_queries queries

  pub mentions_in_source : Source → List Mention
  mentions_in_source (view name alias) = []
  mentions_in_source (nested query alias) = mentions_in_query query

  pub mentions_in_sources : Sources → List Mention
  mentions_in_sources no_sources = []
  mentions_in_sources (more_sources source sources) = mentions_in_source source ++ mentions_in_sources sources

-- what a statement mentions: the query of one that creates a view
abbrev pub mentions_in_statement : Statement → List Mention
mentions_in_statement (create name query) = mentions_in_query query
mentions_in_statement statement = []

-- what the statements mention
abbrev pub mentions_of : List Statement → List Mention
mentions_of program = flat_map mentions_in_statement program

-- what a selection and an extraction mention, with lists for their parts
abbrev pub mentions_in_selection : List Item → List Source → Clauses → List Mention
mentions_in_selection items sources clauses =
    flat_map mentions_in_item items ++ (flat_map mentions_in_source sources ++ mentions_in_clauses clauses)

abbrev pub mentions_in_extraction : List Item → Spec → Source → Tail → List Mention
mentions_in_extraction items spec source tail =
    flat_map mentions_in_column items ++ (mentions_in_spec spec ++ (mentions_in_source source ++ mentions_in_tail tail))
