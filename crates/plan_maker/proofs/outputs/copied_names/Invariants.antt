use Rattle.std.proofs.Common.{◌≡◌, map, take}
use Rattle.plan_maker.proofs.outputs.copied_names.Given as goal

abbrev pub invariant-loop-column : goal.invariant-loop-column
invariant-loop-column l = l.names ≡ map (λ column. column.name) (take l.column-index l.columns)
