use Rattle.std.proofs.Common.{◌≡◌, ◌++◌, map}
use Rattle.aql_typed.specs.Views.{source_of}
use Rattle.aql_types.specs.QueryTypings.{bodies_of}
use Rattle.aql_types.specs.Sources.{source_seen}
use Rattle.aql_types.proofs.source.bodies.Given as goal

abbrev pub invariant-loop-source : goal.invariant-loop-source
invariant-loop-source l = map source_of l.bodies.items ++ bodies_of (map source_seen l.source-iterator.rest.items) ≡ bodies_of (map source_seen l.fn.sources.items)
