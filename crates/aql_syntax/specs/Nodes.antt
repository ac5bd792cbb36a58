-- Nodes that are made of a list are seen through its elements, for those who take a tree apart.
use Rattle.std.proofs.Common.{◌≡◌, ◌∙◌, ℕ, List, map, refl, ap}
use Rattle.std.specs.declared.vec.Vec.{Vec}
use Rattle.std.specs.declared.alloc.Global.{Global}
use mathlib.Core.Former.{Count}
use Rattle.aql_syntax.specs.declared.tree.Ast.{Ast}
use Rattle.aql_syntax.specs.declared.tree.Form.{Form, Row_of-Ast, end_of-Ast, more_of-Ast, items-the_row-Ast, items_hidden-the_row-Ast-0}
use Rattle.aql_syntax.specs.declared.tree.Form.TheVariants as form
use Rattle.aql_syntax.specs.declared.tree.Query as declared
use Rattle.aql_syntax.specs.declared.tree.Query.{Row_of-Query, end_of-Query, more_of-Query, items-the_row-Query, items_hidden-the_row-Query-1}
use Rattle.aql_syntax.specs.declared.tree.Query.TheVariants as query
use Rattle.aql_syntax.specs.declared.tree.Select.{Select, Row_of-FromPart, end_of-FromPart, more_of-FromPart, items-the_row-FromPart, items_hidden-the_row-FromPart-0}
use Rattle.aql_syntax.specs.declared.tree.FromPart.{FromPart}
use Rattle.aql_syntax.specs.Trees.{call, more_terms, as_terms, select, union, more_sources, as_sources, more_queries, as_queries}
use Rattle.aql_syntax.specs.Views.{term_at, term_of, terms_of, item_of, clauses_of, query_of, queries_of, source_of, sources_of}

args_view : (n : Count) (row : Row_of-Ast n) → terms_of row ≡ as_terms (map term_of (items-the_row-Ast n row))
args_view n end_of-Ast = refl
args_view n (more_of-Ast at form rest) = ap (more_terms (term_at at form)) (args_view _ rest)

abbrev args_of : Form → (n : Count) × Row_of-Ast n
args_of (form.Call' name shape row) = (_, row)
args_of _ = (_, end_of-Ast)

-- a call is seen through the list of its arguments
pub call_view : (at : ℕ) (name : List ℕ) (args : Vec Ast Global) → term_at at (form.Call name args) ≡ call at name (as_terms (map term_of args.items))
call_view at name args =
    let row = args_of (form.Call name args) in
    ap (call at name) (args_view row.0 row.1 ∙ ap (λ (xs : List Ast). as_terms (map term_of xs)) (items_hidden-the_row-Ast-0 args))

sources_view : (n : Count) (row : Row_of-FromPart n) → sources_of row ≡ as_sources (map source_of (items-the_row-FromPart n row))
sources_view n end_of-FromPart = refl
sources_view n (more_of-FromPart source rest) = ap (more_sources (source_of source)) (sources_view _ rest)

queries_view : (n : Count) (row : Row_of-Query n) → queries_of row ≡ as_queries (map query_of (items-the_row-Query n row))
queries_view n end_of-Query = refl
queries_view n (more_of-Query side rest) = ap (more_queries (query_of side)) (queries_view _ rest)

abbrev sources_in : declared.Query → (n : Count) × Row_of-FromPart n
sources_in (query.Select' at items shape row conds cons group order limit) = (_, row)
sources_in _ = (_, end_of-FromPart)

abbrev sides_in : declared.Query → (n : Count) × Row_of-Query n
sides_in (query.Union' shape row) = (_, row)
sides_in _ = (_, end_of-Query)

-- a selection is seen through the list of its sources
pub select_view : (s : Select) → query_of (query.Select s) ≡ select s.at (map item_of s.items.items) (as_sources (map source_of s.sources.items)) (clauses_of s)
select_view s =
    let row = sources_in (query.Select s) in
    ap (λ sources. select s.at (map item_of s.items.items) sources (clauses_of s))
    (sources_view row.0 row.1 ∙ ap (λ (xs : List FromPart). as_sources (map source_of xs)) (items_hidden-the_row-FromPart-0 s.sources))

-- a union is seen through the list of its sides
pub union_view : (sides : Vec declared.Query Global) → query_of (query.Union sides) ≡ union (as_queries (map query_of sides.items))
union_view sides =
    let row = sides_in (query.Union sides) in
    ap union (queries_view row.0 row.1 ∙ ap (λ (xs : List declared.Query). as_queries (map query_of xs)) (items_hidden-the_row-Query-1 sides))
