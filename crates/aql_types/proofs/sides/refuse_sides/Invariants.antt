use Rattle.std.proofs.Common.{◌≡◌, map, drop}
use Rattle.aql_types.specs.Queries.{mismatches}
use Rattle.aql_types.specs.Sources.{query_seen}
use Rattle.aql_types.proofs.sides.refuse_sides.Given as goal

abbrev pub invariant-loop-side : goal.invariant-loop-side
invariant-loop-side l = mismatches (query_seen l.first) (map query_seen (drop l.side-index l.later)) ≡ mismatches (query_seen l.first) (map query_seen l.later)
