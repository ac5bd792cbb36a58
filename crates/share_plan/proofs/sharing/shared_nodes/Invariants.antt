use Rattle.share_plan.proofs.Rebuilding.{IsShared}
use Rattle.share_plan.proofs.sharing.shared_nodes.Given as goal

abbrev pub invariant-loop-node : goal.invariant-loop-node
invariant-loop-node l = IsShared l.fn.old l.yielded l.shared.nodes.items l.shared.sources.items l.to.items l.shared.index.keys
