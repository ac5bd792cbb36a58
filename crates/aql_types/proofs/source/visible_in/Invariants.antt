use Rattle.std.proofs.Common.{◌≡◌, map, take}
use Rattle.aql_types.specs.QueryTypings.{visible_in}
use Rattle.aql_types.specs.Sources.{source_seen}
use Rattle.clause_types.specs.Views.{visible_of}
use Rattle.aql_types.proofs.source.visible_in.Given as goal

abbrev pub invariant-loop-source : goal.invariant-loop-source
invariant-loop-source l = map visible_of l.all.items ≡ visible_in (map source_seen (take l.source-index l.sources))
