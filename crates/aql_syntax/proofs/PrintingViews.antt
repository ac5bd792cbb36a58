-- What is printed of a node with a list, by the list's elements.
use Rattle.std.proofs.Common.{◌≡◌, ◌∙◌, ◌+◌, ℕ, List, [], ◌∷◌, ◌++◌, map, refl, ap, sym}
use Rattle.std.specs.declared.vec.Vec.{Vec}
use Rattle.std.specs.declared.alloc.Global.{Global}
use Rattle.aql_lexer.specs.Kinds.{Kind}
use Rattle.aql_lexer.specs.Kinds as k
use Rattle.aql_syntax.specs.declared.tree.Ast.{Ast}
use Rattle.aql_syntax.specs.declared.tree.Form.{Form}
use Rattle.aql_syntax.specs.declared.tree.Form.TheVariants as form
use Rattle.aql_syntax.specs.declared.tree.Query as declared
use Rattle.aql_syntax.specs.declared.tree.Query.TheVariants as query
use Rattle.aql_syntax.specs.declared.tree.Select.{Select}
use Rattle.aql_syntax.specs.Trees.{Term, as_terms, Source, as_sources, Query, as_queries}
use Rattle.aql_syntax.specs.Views.{term_at, term_of, item_of, clauses_of, query_of, source_of}
use Rattle.aql_syntax.specs.Printed.{word, sign, comma, union_all, printed_before, printed_from, printed_separated, printed_term, printed_args, printed_call, printed_item, printed_clauses, printed_source, printed_sources, printed_nested, printed_sides, printed_select, printed_union, printed_query}
use Rattle.aql_syntax.specs.Nodes.{call_view, select_view, union_view}

-- arguments are printed as a list is
pub printed_args-as_terms : (i : ℕ) (ts : List Term) → printed_args i (as_terms ts) ≡ printed_from i comma printed_term ts
printed_args-as_terms i [] = refl
printed_args-as_terms i (t ∷ ts) = ap (λ rest. printed_before i comma ++ (printed_term t ++ rest)) (printed_args-as_terms (i + 1) ts)

pub printed_call_view : (at : ℕ) (name : List ℕ) (args : Vec Ast Global) → printed_term (term_at at (form.Call name args)) ≡ printed_call name (map term_of args.items)
printed_call_view at name args =
    ap printed_term (call_view at name args)
    ∙ ap (λ inner. k.word name ∷ sign "(" ∷ (inner ++ (sign ")" ∷ []))) (printed_args-as_terms 0 (map term_of args.items))

-- the same of an expression that is known to be a call of this name with these arguments
pub printed_term-call : (at : ℕ) (f : Form) (name text : List ℕ) (args : Vec Ast Global) (items : List Ast) → f ≡ form.Call name args → text ≡ name → items ≡ args.items → printed_call text (map term_of items) ≡ printed_term (term_at at f)
printed_term-call at f name text args items is same_name same_items =
    sym (ap (λ (form : Form). printed_term (term_at at form)) is
    ∙ (printed_call_view at name args
    ∙ (ap (λ (name : List ℕ). printed_call name (map term_of args.items)) (sym same_name)
    ∙ ap (λ (items : List Ast). printed_call text (map term_of items)) (sym same_items))))

pub printed_sources-as_sources : (i : ℕ) (ss : List Source) → printed_sources i (as_sources ss) ≡ printed_from i comma printed_source ss
printed_sources-as_sources i [] = refl
printed_sources-as_sources i (s ∷ ss) = ap (λ rest. printed_before i comma ++ (printed_source s ++ rest)) (printed_sources-as_sources (i + 1) ss)

pub printed_sides-as_queries : (i : ℕ) (qs : List Query) → printed_sides i (as_queries qs) ≡ printed_from i union_all printed_nested qs
printed_sides-as_queries i [] = refl
printed_sides-as_queries i (q ∷ qs) = ap (λ rest. printed_before i union_all ++ (printed_nested q ++ rest)) (printed_sides-as_queries (i + 1) qs)

-- a query that is known to be this selection
pub printed_query-select : (q : declared.Query) (s : Select) → q ≡ query.Select s → printed_select (map item_of s.items.items) (map source_of s.sources.items) (clauses_of s) ≡ printed_query (query_of q)
printed_query-select q s is =
    sym (ap (λ (other : declared.Query). printed_query (query_of other)) is
    ∙ (ap printed_query (select_view s)
    ∙ ap (λ sources. word "select" ∷ (printed_separated comma printed_item (map item_of s.items.items) ++ (word "from" ∷ (sources ++ printed_clauses (clauses_of s)))))
    (printed_sources-as_sources 0 (map source_of s.sources.items))))

-- a query that is known to be a union of these sides
pub printed_query-union : (q : declared.Query) (sides : Vec declared.Query Global) (items : List declared.Query) → q ≡ query.Union sides → items ≡ sides.items → printed_union (map query_of items) ≡ printed_query (query_of q)
printed_query-union q sides items is same_items =
    sym (ap (λ (other : declared.Query). printed_query (query_of other)) is
    ∙ (ap printed_query (union_view sides)
    ∙ (printed_sides-as_queries 0 (map query_of sides.items)
    ∙ ap (λ (items : List declared.Query). printed_union (map query_of items)) (sym same_items))))
