-- What is mentioned in a node with a list, by the list's elements.
use Rattle.std.proofs.Common.{◌≡◌, ◌∙◌, ◌<◌, ◌≤◌, ℕ, false, List, [], ◌∷◌, ◌++◌, map, flat_map, length, get_or, refl, ap, sym, append_assoc, arith}
use Rattle.std.specs.declared.vec.Vec.{Vec}
use Rattle.std.specs.declared.alloc.Global.{Global}
use Rattle.aql_syntax.specs.declared.tree.Ast.{Ast}
use Rattle.aql_syntax.specs.declared.tree.Form.{Form}
use Rattle.aql_syntax.specs.declared.tree.Form.TheVariants as form
use Rattle.aql_syntax.specs.declared.tree.Query as declared
use Rattle.aql_syntax.specs.declared.tree.Query.TheVariants as query
use Rattle.aql_syntax.specs.declared.tree.Select.{Select}
use Rattle.aql_syntax.specs.Trees.{Term, as_terms, Source, as_sources, Query, as_queries}
use Rattle.aql_syntax.specs.Views.{term_at, term_of, item_of, clauses_of, query_of, source_of}
use Rattle.aql_syntax.specs.Nodes.{call_view, select_view, union_view}
use Rattle.aql_tables.specs.Mentions.{Mention, flags_of, flags_in, mentions_in_arguments, mentions_in_term, mentions_in_terms, mentions_in_item, mentions_in_clauses, mentions_in_source, mentions_in_sources, mentions_in_query, mentions_in_queries, mentions_in_selection}

mentions_in_terms-as_terms : (ts : List Term) → mentions_in_terms (as_terms ts) ≡ flat_map mentions_in_term ts
mentions_in_terms-as_terms [] = refl
mentions_in_terms-as_terms (t ∷ ts) = ap (λ rest. mentions_in_term t ++ rest) (mentions_in_terms-as_terms ts)

mentions_in_sources-as_sources : (ss : List Source) → mentions_in_sources (as_sources ss) ≡ flat_map mentions_in_source ss
mentions_in_sources-as_sources [] = refl
mentions_in_sources-as_sources (s ∷ ss) = ap (λ rest. mentions_in_source s ++ rest) (mentions_in_sources-as_sources ss)

mentions_in_queries-as_queries : (qs : List Query) → mentions_in_queries (as_queries qs) ≡ flat_map mentions_in_query qs
mentions_in_queries-as_queries [] = refl
mentions_in_queries-as_queries (q ∷ qs) = ap (λ rest. mentions_in_query q ++ rest) (mentions_in_queries-as_queries qs)

-- fewer than two arguments have no flag
pub flags_in-short : (args : List Ast) → length args < 2 → flags_in (as_terms (map term_of args)) ≡ false ∷ []
flags_in-short [] few = refl
flags_in-short (a ∷ []) few = refl
flags_in-short (a ∷ b ∷ args) few = absurd (omega (arith, few))

-- of two or more the first is the flag
pub flags_in-long : (args : List Ast) (flag : Ast) → 2 ≤ length args → flag ≡ get_or args 0 flag → flags_in (as_terms (map term_of args)) ≡ flags_of (term_of flag)
flags_in-long [] flag many is = absurd (omega (arith, many))
flags_in-long (a ∷ []) flag many is = absurd (omega (arith, many))
flags_in-long (a ∷ b ∷ args) flag many is = ap (λ (first : Ast). flags_of (term_of first)) (sym is)

-- what is mentioned in an expression that is known to be a call of this name with these arguments
pub mentions_in_term-call : (at : ℕ) (f : Form) (name : List ℕ) (args : Vec Ast Global) → f ≡ form.Call name args
    → (text : List ℕ) → text ≡ name → (items others : List Ast) → items ≡ args.items → others ≡ args.items
    → (old mid : List Mention) → mid ≡ old ++ mentions_in_arguments text (as_terms (map term_of items))
    → mid ++ flat_map mentions_in_term (map term_of others) ≡ old ++ mentions_in_term (term_at at f)
mentions_in_term-call at f name args is text same_name items others same_items same_others old mid first =
    ap (λ (before : List Mention). before ++ flat_map mentions_in_term (map term_of others)) first
    ∙ ap (λ (name : List ℕ). (old ++ mentions_in_arguments name (as_terms (map term_of items))) ++ flat_map mentions_in_term (map term_of others)) same_name
    ∙ ap (λ (items : List Ast). (old ++ mentions_in_arguments name (as_terms (map term_of items))) ++ flat_map mentions_in_term (map term_of others)) same_items
    ∙ ap (λ (others : List Ast). (old ++ mentions_in_arguments name (as_terms (map term_of args.items))) ++ flat_map mentions_in_term (map term_of others)) same_others
    ∙ append_assoc old (mentions_in_arguments name (as_terms (map term_of args.items))) (flat_map mentions_in_term (map term_of args.items))
    ∙ ap (λ (rest : List Mention). old ++ (mentions_in_arguments name (as_terms (map term_of args.items)) ++ rest)) (sym (mentions_in_terms-as_terms (map term_of args.items)))
    ∙ ap (λ (term : Term). old ++ mentions_in_term term) (sym (call_view at name args))
    ∙ ap (λ (form : Form). old ++ mentions_in_term (term_at at form)) (sym is)

-- what is mentioned in a query that is known to be this selection
pub mentions_in_query-select : (q : declared.Query) (s : Select) → q ≡ query.Select s
    → mentions_in_selection (map item_of s.items.items) (map source_of s.sources.items) (clauses_of s) ≡ mentions_in_query (query_of q)
mentions_in_query-select q s is =
    sym (ap (λ (other : declared.Query). mentions_in_query (query_of other)) is
    ∙ (ap mentions_in_query (select_view s)
    ∙ ap (λ sources. flat_map mentions_in_item (map item_of s.items.items) ++ (sources ++ mentions_in_clauses (clauses_of s)))
    (mentions_in_sources-as_sources (map source_of s.sources.items))))

-- what is mentioned in a query that is known to be a union of these sides
pub mentions_in_query-union : (q : declared.Query) (sides : Vec declared.Query Global) (items : List declared.Query) → q ≡ query.Union sides → items ≡ sides.items
    → flat_map mentions_in_query (map query_of items) ≡ mentions_in_query (query_of q)
mentions_in_query-union q sides items is same_items =
    sym (ap (λ (other : declared.Query). mentions_in_query (query_of other)) is
    ∙ (ap mentions_in_query (union_view sides)
    ∙ (mentions_in_queries-as_queries (map query_of sides.items)
    ∙ ap (λ (items : List declared.Query). flat_map mentions_in_query (map query_of items)) (sym same_items))))
