use Rattle.std.proofs.Common.{◌≡◌, ◌+◌, drop}
use Rattle.clause_types.specs.Scopes as spec
use Rattle.clause_types.proofs.scope.column_named.Given as goal

abbrev pub invariant-loop-index : goal.invariant-loop-index
invariant-loop-index l = spec.column_named l.name (l.start + l.index) (drop l.index l.columns) ≡ spec.column_named l.name l.start l.columns
