use Rattle.std.proofs.Common.{◌≡◌, ◌-◌, take}
use Rattle.algebra.specs.Operators.{part_of}
use Rattle.plan_operators.proofs.dict_part.part_of.Given as goal

abbrev pub invariant-loop-row : goal.invariant-loop-row
invariant-loop-row l = l.out ≡ record { width = l.rows.width - 1; rows = part_of l.number (take l.row-index l.row-items) }
