-- Nodes that are made of a list are seen through its elements, for those who take a tree apart.
use Rattle.std.proofs.Common.{◌≡◌, ◌∙◌, List, map, refl, ap}
use Rattle.std.specs.declared.vec.Vec.{Vec}
use Rattle.std.specs.declared.alloc.Global.{Global}
use mathlib.Core.Former.{Count}
use Rattle.aql_typed.specs.declared.tree.TypedQuery.{TypedQuery, Row_of-TypedQuery, end_of-TypedQuery, more_of-TypedQuery, items-the_row-TypedQuery, items_hidden-the_row-TypedQuery-1}
use Rattle.aql_typed.specs.declared.tree.TypedQuery.TheVariants as query
use Rattle.aql_typed.specs.declared.tree.TypedSelect.{TypedSelect, Row_of-TypedSource, end_of-TypedSource, more_of-TypedSource, items-the_row-TypedSource, items_hidden-the_row-TypedSource-0}
use Rattle.aql_typed.specs.declared.tree.TypedSource.{TypedSource}
use Rattle.aql_typed.specs.Trees.{select, union, more_sources, as_sources, more_queries, as_queries}
use Rattle.aql_typed.specs.Views.{select_clauses_of, query_of, queries_of, source_of, sources_of}

sources_view : (n : Count) (row : Row_of-TypedSource n) → sources_of row ≡ as_sources (map source_of (items-the_row-TypedSource n row))
sources_view n end_of-TypedSource = refl
sources_view n (more_of-TypedSource source rest) = ap (more_sources (source_of source)) (sources_view _ rest)

queries_view : (n : Count) (row : Row_of-TypedQuery n) → queries_of row ≡ as_queries (map query_of (items-the_row-TypedQuery n row))
queries_view n end_of-TypedQuery = refl
queries_view n (more_of-TypedQuery side rest) = ap (more_queries (query_of side)) (queries_view _ rest)

abbrev sources_in : TypedQuery → (n : Count) × Row_of-TypedSource n
sources_in (query.Select' shape row clauses) = (_, row)
sources_in _ = (_, end_of-TypedSource)

abbrev sides_in : TypedQuery → (n : Count) × Row_of-TypedQuery n
sides_in (query.Union' shape row) = (_, row)
sides_in _ = (_, end_of-TypedQuery)

-- a selection is seen through the list of its sources
pub select_view : (s : TypedSelect) → query_of (query.Select s) ≡ select (as_sources (map source_of s.sources.items)) (select_clauses_of s.clauses)
select_view s =
    let row = sources_in (query.Select s) in
    ap (λ sources. select sources (select_clauses_of s.clauses))
    (sources_view row.0 row.1 ∙ ap (λ (xs : List TypedSource). as_sources (map source_of xs)) (items_hidden-the_row-TypedSource-0 s.sources))

-- a union is seen through the list of its sides
pub union_view : (sides : Vec TypedQuery Global) → query_of (query.Union sides) ≡ union (as_queries (map query_of sides.items))
union_view sides =
    let row = sides_in (query.Union sides) in
    ap union (queries_view row.0 row.1 ∙ ap (λ (xs : List TypedQuery). as_queries (map query_of xs)) (items_hidden-the_row-TypedQuery-1 sides))
