use Rattle.std.proofs.Common.{◌≡◌, ◌++◌, take}
use Rattle.plan_operators.proofs.union.append_copies.Given as goal

abbrev pub invariant-loop-row : goal.invariant-loop-row
invariant-loop-row l = l.into ≡ record { width = l.fn.into.width; rows = l.fn.into.rows ++ take l.row-index l.row-items }
