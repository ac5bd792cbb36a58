use Rattle.std.proofs.Common.{◌≡◌, map, drop}
use Rattle.clause_types.specs.Scopes as spec
use Rattle.clause_types.specs.Views.{visible_of}
use Rattle.clause_types.proofs.scope.source_named.Given as goal

abbrev pub invariant-loop-source : goal.invariant-loop-source
invariant-loop-source l = spec.source_named l.alias l.start (map visible_of (drop l.source-index l.sources)) ≡ spec.source_named l.alias 0 (map visible_of l.sources)
