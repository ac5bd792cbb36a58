use Rattle.std.proofs.Common.{◌≡◌, map, take}
use Rattle.row_values.specs.Rows.{value_in}
use Rattle.group_agg.proofs.groups.key_of.Given as goal

abbrev pub invariant-loop-column : goal.invariant-loop-column
invariant-loop-column l = l.key ≡ map (value_in l.row) (take l.column-index l.keys)
