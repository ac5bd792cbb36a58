use Rattle.std.proofs.Common.{◌≡◌, ◌++◌, map}
use Rattle.aql_typed.specs.Views.{query_of}
use Rattle.aql_types.specs.Queries.{bodies_of}
use Rattle.aql_types.specs.Sources.{query_seen}
use Rattle.aql_types.proofs.sides.bodies.Given as goal

abbrev pub invariant-loop-side : goal.invariant-loop-side
invariant-loop-side l = map query_of l.bodies.items ++ bodies_of (map query_seen l.side-iterator.rest.items) ≡ bodies_of (map query_seen l.fn.sides.items)
