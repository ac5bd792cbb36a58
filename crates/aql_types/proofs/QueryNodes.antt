-- Queries that are made of a list.
use Rattle.std.proofs.Common.{◌≡◌, ◌∙◌, List, [], ◌∷◌, map, refl, ap}
use Rattle.std.specs.declared.vec.Vec.{Vec}
use Rattle.std.specs.declared.alloc.Global.{Global}
use Rattle.aql_syntax.specs.declared.tree.Query as declared
use Rattle.aql_syntax.specs.declared.tree.Query.TheVariants as query
use Rattle.aql_syntax.specs.declared.tree.Select.{Select}
use Rattle.aql_syntax.specs.Nodes.{select_view, union_view}
use Rattle.aql_syntax.specs.Trees.{Query, Source, as_queries, as_sources}
use Rattle.aql_syntax.specs.Views.{query_of, source_of, item_of, clauses_of}
use Rattle.clause_types.specs.Known.{Known}
use Rattle.aql_types.specs.Queries.{View, typing_of_query, typings_of_queries, typing_of_source, typings_of_sources, union_of}
use Rattle.aql_types.specs.QueryTypings.{QueryTyping, SourceTyping, selection}

module _ (known : Known) (below : List View) where
  pub typings-as_queries : (qs : List Query) → typings_of_queries known below (as_queries qs) ≡ map (typing_of_query known below) qs
  typings-as_queries [] = refl
  typings-as_queries (q ∷ qs) = ap (λ (rest : List QueryTyping). typing_of_query known below q ∷ rest) (typings-as_queries qs)

  pub typings-as_sources : (ss : List Source) → typings_of_sources known below (as_sources ss) ≡ map (typing_of_source known below) ss
  typings-as_sources [] = refl
  typings-as_sources (s ∷ ss) = ap (λ (rest : List SourceTyping). typing_of_source known below s ∷ rest) (typings-as_sources ss)

  -- what is said of a selection, and of a union, in words of lists
  pub select_typing : (s : Select) → typing_of_query known below (query_of (query.Select s))
      ≡ selection known (map (typing_of_source known below) (map source_of s.sources.items)) (map item_of s.items.items) (clauses_of s) s.at
  select_typing s =
      ap (typing_of_query known below) (select_view s)
      ∙ ap (λ (ss : List SourceTyping). selection known ss (map item_of s.items.items) (clauses_of s) s.at) (typings-as_sources (map source_of s.sources.items))

  pub union_typing : (sides : Vec declared.Query Global) → typing_of_query known below (query_of (query.Union sides))
      ≡ union_of (map (typing_of_query known below) (map query_of sides.items))
  union_typing sides = ap (typing_of_query known below) (union_view sides) ∙ ap union_of (typings-as_queries (map query_of sides.items))
