use Rattle.std.proofs.Common.{◌≡◌, ◌++◌, map, flat_map, drop}
use Rattle.aql_syntax.specs.Views.{query_of, source_of}
use Rattle.aql_tables.specs.Mentions.{mentions_in_query, mentions_in_source}
use Rattle.aql_tables.proofs.walk.queries.+query.Given as goal

abbrev pub invariant-sources-loop-one : goal.invariant-sources-loop-one
invariant-sources-loop-one l =
    l.out ++ flat_map mentions_in_source (map source_of (drop l.one-index l.sources)) ≡ l.initial.out ++ flat_map mentions_in_source (map source_of l.sources)

abbrev pub invariant-union-loop-side : goal.invariant-union-loop-side
invariant-union-loop-side l =
    l.out ++ flat_map mentions_in_query (map query_of (drop l.side-index l.sides)) ≡ l.initial.out ++ flat_map mentions_in_query (map query_of l.sides)
