use Rattle.std.proofs.Common.{take}
use Rattle.std.specs.List.{All}
use Rattle.plan_operators.specs.Neighbourhoods.{AreAround}
use Rattle.plan_operators.proofs.stretches.stretches_of_each.Given as goal

abbrev pub invariant-loop-row : goal.invariant-loop-row
invariant-loop-row l = All (AreAround l.doc l.kind l.lc l.reach l.all.items) (take l.row-index l.row-items)
