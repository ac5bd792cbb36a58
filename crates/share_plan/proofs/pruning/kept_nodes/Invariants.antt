use Rattle.std.proofs.Common.{take}
use Rattle.share_plan.specs.Marks.{IsArranged}
use Rattle.share_plan.proofs.Arranging.{AreLeft}
use Rattle.share_plan.proofs.pruning.kept_nodes.Given as goal

abbrev pub invariant-loop-i : goal.invariant-loop-i
invariant-loop-i l = record {
  arranged : IsArranged (take l.i-index l.numbers) l.fn.old l.nodes l.to.items;
  left : AreLeft (take l.i-index l.numbers) l.fn.old l.rest.items;
}
