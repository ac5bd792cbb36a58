use Rattle.std.proofs.Common.{◌≡◌, map, drop}
use Rattle.aql_types.specs.Queries.{view_named}
use Rattle.aql_types.specs.Programs.{view_seen}
use Rattle.aql_types.proofs.below.view_named.Given as goal

abbrev pub invariant-loop-index : goal.invariant-loop-index
invariant-loop-index l = view_named l.name l.index (map view_seen (drop l.index l.below)) ≡ view_named l.name 0 (map view_seen l.below)
