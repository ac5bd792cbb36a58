-- The names in a node with a list, by the list's elements.
use Rattle.std.proofs.Common.{◌≡◌, ◌∙◌, ℕ, List, [], ◌∷◌, ◌++◌, map, flat_map, refl, ap, sym, append_assoc}
use Rattle.std.specs.declared.vec.Vec.{Vec}
use Rattle.std.specs.declared.alloc.Global.{Global}
use Rattle.aql_syntax.specs.declared.tree.Ast.{Ast}
use Rattle.aql_syntax.specs.declared.tree.Form.{Form}
use Rattle.aql_syntax.specs.declared.tree.Form.TheVariants as form
use Rattle.aql_syntax.specs.declared.tree.Query as declared
use Rattle.aql_syntax.specs.declared.tree.Query.TheVariants as query
use Rattle.aql_syntax.specs.declared.tree.Select.{Select}
use Rattle.aql_syntax.specs.Trees.{Term, as_terms, Source, as_sources, Query, as_queries}
use Rattle.aql_syntax.specs.Views.{term_at, term_of, item_of, clauses_of, query_of, source_of}
use Rattle.aql_syntax.specs.Nodes.{call_view, select_view, union_view}
use Rattle.view_graph.specs.Names.{Named, dictionary_argument, names_in_term, names_in_terms, names_in_item, names_in_clauses, names_in_source, names_in_sources, names_in_query, names_in_queries, names_in_selection}

names_in_terms-as_terms : (ts : List Term) → names_in_terms (as_terms ts) ≡ flat_map names_in_term ts
names_in_terms-as_terms [] = refl
names_in_terms-as_terms (t ∷ ts) = ap (λ rest. names_in_term t ++ rest) (names_in_terms-as_terms ts)

names_in_sources-as_sources : (ss : List Source) → names_in_sources (as_sources ss) ≡ flat_map names_in_source ss
names_in_sources-as_sources [] = refl
names_in_sources-as_sources (s ∷ ss) = ap (λ rest. names_in_source s ++ rest) (names_in_sources-as_sources ss)

names_in_queries-as_queries : (qs : List Query) → names_in_queries (as_queries qs) ≡ flat_map names_in_query qs
names_in_queries-as_queries [] = refl
names_in_queries-as_queries (q ∷ qs) = ap (λ rest. names_in_query q ++ rest) (names_in_queries-as_queries qs)

-- the names in an expression that is known to be a call of this name with these arguments
pub names_in_term-call : (at : ℕ) (f : Form) (name : List ℕ) (args : Vec Ast Global) → f ≡ form.Call name args
    → (text : List ℕ) → text ≡ name → (items others : List Ast) → items ≡ args.items → others ≡ args.items
    → (old mid : List Named) → mid ≡ old ++ dictionary_argument text (as_terms (map term_of items))
    → mid ++ flat_map names_in_term (map term_of others) ≡ old ++ names_in_term (term_at at f)
names_in_term-call at f name args is text same_name items others same_items same_others old mid first =
    ap (λ (before : List Named). before ++ flat_map names_in_term (map term_of others)) first
    ∙ ap (λ (name : List ℕ). (old ++ dictionary_argument name (as_terms (map term_of items))) ++ flat_map names_in_term (map term_of others)) same_name
    ∙ ap (λ (items : List Ast). (old ++ dictionary_argument name (as_terms (map term_of items))) ++ flat_map names_in_term (map term_of others)) same_items
    ∙ ap (λ (others : List Ast). (old ++ dictionary_argument name (as_terms (map term_of args.items))) ++ flat_map names_in_term (map term_of others)) same_others
    ∙ append_assoc old (dictionary_argument name (as_terms (map term_of args.items))) (flat_map names_in_term (map term_of args.items))
    ∙ ap (λ (rest : List Named). old ++ (dictionary_argument name (as_terms (map term_of args.items)) ++ rest)) (sym (names_in_terms-as_terms (map term_of args.items)))
    ∙ ap (λ (term : Term). old ++ names_in_term term) (sym (call_view at name args))
    ∙ ap (λ (form : Form). old ++ names_in_term (term_at at form)) (sym is)

-- the names in a query that is known to be this selection
pub names_in_query-select : (q : declared.Query) (s : Select) → q ≡ query.Select s
    → names_in_selection (map item_of s.items.items) (map source_of s.sources.items) (clauses_of s) ≡ names_in_query (query_of q)
names_in_query-select q s is =
    sym (ap (λ (other : declared.Query). names_in_query (query_of other)) is
    ∙ (ap names_in_query (select_view s)
    ∙ ap (λ sources. flat_map names_in_item (map item_of s.items.items) ++ (sources ++ names_in_clauses (clauses_of s)))
    (names_in_sources-as_sources (map source_of s.sources.items))))

-- the names in a query that is known to be a union of these sides
pub names_in_query-union : (q : declared.Query) (sides : Vec declared.Query Global) (items : List declared.Query) → q ≡ query.Union sides → items ≡ sides.items
    → flat_map names_in_query (map query_of items) ≡ names_in_query (query_of q)
names_in_query-union q sides items is same_items =
    sym (ap (λ (other : declared.Query). names_in_query (query_of other)) is
    ∙ (ap names_in_query (union_view sides)
    ∙ (names_in_queries-as_queries (map query_of sides.items)
    ∙ ap (λ (items : List declared.Query). flat_map names_in_query (map query_of items)) (sym same_items))))
