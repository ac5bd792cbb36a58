use Rattle.std.proofs.Common.{◌≡◌, map, take}
use Rattle.aql_types.specs.QueryTypings.{aliases_of}
use Rattle.aql_types.specs.Sources.{source_seen}
use Rattle.clause_types.specs.Views.{label_of}
use Rattle.aql_types.proofs.source.labels.Given as goal

abbrev pub invariant-loop-source : goal.invariant-loop-source
invariant-loop-source l = map label_of l.labels.items ≡ aliases_of (map source_seen (take l.source-index l.sources))
