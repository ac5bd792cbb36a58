use Rattle.algebra.specs.Mapping.{IsRebuilt}
use Rattle.algebra.proofs.rewrite.rebuilt.Given as goal

abbrev pub invariant-loop-node : goal.invariant-loop-node
invariant-loop-node g l = IsRebuilt (g.R.Rewrite.knows l.rule l.nodes) l.yielded l.nodes l.to.items
