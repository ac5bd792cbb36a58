use Rattle.std.proofs.Common.{◌≡◌, map, take, drop}
use Rattle.aql_syntax.specs.Views.{query_of, source_of}
use Rattle.clause_types.specs.Knowns.{known_of}
use Rattle.aql_types.specs.Programs.{view_seen}
use Rattle.aql_types.specs.Queries.{typing_of_query, typing_of_source, faults_of_sides}
use Rattle.aql_types.specs.QueryTypings.{faults_of_sources}
use Rattle.aql_types.specs.Sources.{source_seen, query_seen}
use Rattle.aql_types.proofs.query.+query.Given as goal

abbrev pub invariant-queries-loop-side : goal.invariant-queries-loop-side
invariant-queries-loop-side l =
    (map query_seen l.all.items ≡ map (typing_of_query (known_of l.known) (map view_seen l.below)) (map query_of (take l.side-index l.sides)))
    × (faults_of_sides (map (typing_of_query (known_of l.known) (map view_seen l.below)) (map query_of (drop l.side-index l.sides)))
    ≡ faults_of_sides (map (typing_of_query (known_of l.known) (map view_seen l.below)) (map query_of l.sides)))

abbrev pub invariant-sources-loop-part : goal.invariant-sources-loop-part
invariant-sources-loop-part l =
    (map source_seen l.all.items ≡ map (typing_of_source (known_of l.known) (map view_seen l.below)) (map source_of (take l.part-index l.parts)))
    × (faults_of_sources (map (typing_of_source (known_of l.known) (map view_seen l.below)) (map source_of (drop l.part-index l.parts)))
    ≡ faults_of_sources (map (typing_of_source (known_of l.known) (map view_seen l.below)) (map source_of l.parts)))
