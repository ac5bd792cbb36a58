use Rattle.std.proofs.Common.{◌≡◌, ◌+◌, take}
use Rattle.row_values.specs.Rows.{product}
use Rattle.plan_operators.proofs.cross.cross.Given as goal

abbrev pub invariant-loop-row : goal.invariant-loop-row
invariant-loop-row l = l.out ≡ record { width = l.left.width + l.right.width; rows = product (take l.row-index l.row-items) l.right.rows }
