use Rattle.std.proofs.Common.{◌≡◌}
use Rattle.share_plan.proofs.sharing.planned.Given as goal

abbrev pub invariant-loop-node : goal.invariant-loop-node
invariant-loop-node l = l.new ≡ l.yielded
