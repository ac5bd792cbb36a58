use Rattle.std.proofs.Common.{◌≡◌, ◌++◌, map, take}
use Rattle.plan_operators.proofs.cross.push_each.Given as goal

abbrev pub invariant-loop-other : goal.invariant-loop-other
invariant-loop-other l = l.into ≡ record { width = l.fn.into.width; rows = l.fn.into.rows ++ map (λ other. l.row ++ other) (take l.other-index l.other-items) }
