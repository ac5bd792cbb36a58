use Rattle.std.proofs.Common.{map}
use Rattle.restrict_eval.proofs.Growing.{IsBuilt}
use Rattle.restrict_eval.proofs.rebuilding.rebuilt.Given as goal

abbrev pub invariant-loop-node : goal.invariant-loop-node
invariant-loop-node l = IsBuilt l.fn.old (map (λ out. out.node) l.fn.outputs) l.yielded l.nodes l.to.items
