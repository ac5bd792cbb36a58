-- Which names a statement defines and which it looks up, in the order of the text.
use Rattle.std.specs.Prelude.{◌≡◌, ℕ, if◌then◌else◌, List, [], ◌∷◌, ◌++◌, Option, Some, None, codes, flat_map, AllPairs, Contains, All}
use Rattle.std.specs.Option.{option_to_list}
use Rattle.aql_syntax.specs.Trees.{Term, str, call, Terms, no_terms, more_terms, Item, Cons, Clauses, Tail, Spec, dict, Query, select, extract, union, minus, Queries, no_queries, more_queries, Source, view, nested, Sources, no_sources, more_sources, Statement, dictionary, create, output}
use Rattle.aql_syntax.specs.Naming.{is_dictionary_predicate, output_name}

-- a name in its space: views and dictionaries have names apart from each other
pub data Named : Type 0 where
  view_named : List ℕ → Named
  dictionary_named : List ℕ → Named

-- the dictionary that a call names: a string that is the first argument of such a predicate
abbrev pub dictionary_argument : List ℕ → Terms → List Named
dictionary_argument name (more_terms (str at text) rest) =
    if is_dictionary_predicate name then dictionary_named text ∷ [] else []
dictionary_argument name terms = []

-- the names in an expression, each as often as it stands there
abbrev mutual
  pub names_in_term : Term → List Named
  names_in_term (call at name args) = dictionary_argument name args ++ names_in_terms args
  names_in_term term = []

  pub names_in_terms : Terms → List Named
  names_in_terms no_terms = []
  names_in_terms (more_terms term terms) = names_in_term term ++ names_in_terms terms

-- the names in an item's expression
abbrev pub names_in_item : Item → List Named
names_in_item item = names_in_term item.expr

-- the names in the target of a consolidation, where there is one
abbrev pub names_in_cons : Option Cons → List Named
names_in_cons None = []
names_in_cons (Some cons) = names_in_term cons.target

-- the dictionary that an extraction looks for
abbrev pub names_in_spec : Spec → List Named
names_in_spec (dict name flag alias field out) = dictionary_named name.text ∷ []
names_in_spec spec = []

-- the names in a selection's clauses after its sources
abbrev pub names_in_clauses : Clauses → List Named
names_in_clauses clauses =
    flat_map names_in_term clauses.conds ++ (names_in_cons clauses.cons
    ++ (flat_map names_in_term clauses.group ++ flat_map names_in_term clauses.order))

-- the names in an extraction's clauses after its source
abbrev pub names_in_tail : Tail → List Named
names_in_tail tail = flat_map names_in_term tail.conds ++ names_in_cons tail.cons

-- the names in a query, nested queries included
abbrev mutual
  pub names_in_query : Query → List Named
  names_in_query (select at items sources clauses) =
      flat_map names_in_item items ++ (names_in_sources sources ++ names_in_clauses clauses)
  names_in_query (extract at items spec source tail) =
      flat_map names_in_item items ++ (names_in_spec spec ++ (names_in_source source ++ names_in_tail tail))
  names_in_query (union sides) = names_in_queries sides
  names_in_query (minus left right) = names_in_query left ++ names_in_query right

  pub names_in_queries : Queries → List Named
  names_in_queries no_queries = []
  names_in_queries (more_queries query queries) = names_in_query query ++ names_in_queries queries

  pub names_in_source : Source → List Named
  names_in_source (view name alias) = view_named name.text ∷ []
  names_in_source (nested query alias) = names_in_query query

  pub names_in_sources : Sources → List Named
  names_in_sources no_sources = []
  names_in_sources (more_sources source sources) = names_in_source source ++ names_in_sources sources

-- the name that a statement defines, where it defines one
abbrev pub defined_by : Statement → List Named
defined_by (dictionary name entries) = dictionary_named name.text ∷ []
defined_by (create name query) = view_named name.text ∷ []
defined_by statement = []

-- the names in the query of a statement that creates a view; the views among them are its sources
abbrev pub names_used_by : Statement → List Named
names_used_by (create name query) = names_in_query query
names_used_by statement = []

-- the names that have to be defined: those of a view's query, and the view that an output names
abbrev pub looked_up_by : Statement → List Named
looked_up_by (output name alias) = view_named name.text ∷ []
looked_up_by statement = names_used_by statement

-- the name of the output that a statement is, if it is one
abbrev pub output_of : Statement → List (List ℕ)
output_of statement = option_to_list (output_name statement)

-- the names that the statements define, after `Document`, which is there from the start
abbrev pub names_defined : List Statement → List Named
names_defined statements = view_named (codes "Document") ∷ flat_map defined_by statements

-- all names that the statements look up, in the order of the text
abbrev pub names_looked_up : List Statement → List Named
names_looked_up statements = flat_map looked_up_by statements

-- the names of all outputs, in order
abbrev pub outputs_of : List Statement → List (List ℕ)
outputs_of statements = flat_map output_of statements

-- no value stands twice in the list
abbrev pub AllDiffer : {X : Type 0} → List X → Type 0
AllDiffer xs = AllPairs (λ a b. ¬ (a ≡ b)) xs

-- a statement of the program defines the name, or it is `Document`
abbrev pub IsDefined : List Statement → Named → Type 0
IsDefined program named = Contains (names_defined program) named

-- each name that the program looks up is defined
abbrev pub LooksUpDefined : List Statement → Type 0
LooksUpDefined program = All (IsDefined program) (names_looked_up program)

-- the names in a selection and in an extraction, with lists for their parts
abbrev pub names_in_selection : List Item → List Source → Clauses → List Named
names_in_selection items sources clauses =
    flat_map names_in_item items ++ (flat_map names_in_source sources ++ names_in_clauses clauses)

abbrev pub names_in_extraction : List Item → Spec → Source → Tail → List Named
names_in_extraction items spec source tail =
    flat_map names_in_item items ++ (names_in_spec spec ++ (names_in_source source ++ names_in_tail tail))
