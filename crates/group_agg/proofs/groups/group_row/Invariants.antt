use Rattle.std.proofs.Common.{◌≡◌, map, take}
use Rattle.group_agg.specs.Tallies.{finished_at}
use Rattle.group_agg.proofs.groups.group_row.Given as goal

abbrev pub invariant-loop-column : goal.invariant-loop-column
invariant-loop-column l = l.row ≡ map (finished_at l.number) (take l.column-index l.columns)
