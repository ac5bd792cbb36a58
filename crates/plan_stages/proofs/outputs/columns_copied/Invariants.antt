use Rattle.std.proofs.Common.{◌≡◌, take}
use Rattle.plan_stages.proofs.outputs.columns_copied.Given as goal

abbrev pub invariant-loop-i : goal.invariant-loop-i
invariant-loop-i l = l.columns ≡ take l.i l.output.columns
