use Rattle.std.proofs.Common.{arith, subst, Option, Some}
use Rattle.algebra.specs.declared.node.Node.{Node}
use Rattle.algebra.specs.declared.node.Node.TheVariants.{SpanJoin}
use Rattle.algebra.specs.FoldLaws.{length-each}
use Rattle.algebra.specs.Shapes.{shape_by, no_shape}
use Rattle.restrict_eval.specs.declared.nearness.Near.{Near}
use Rattle.restrict_eval.specs.Putting.{MayPut}
use Rattle.restrict_eval.proofs.rebuilding.put.Goals as goal

pub put_shown-requires-clause-outer : goal.put_shown-requires-clause-outer
put_shown-requires-clause-outer c =
    let may : MayPut c.args.nodes.now c.args.to.now (Some c.in-Some.near) (SpanJoin c.in-SpanJoin.left c.in-SpanJoin.right c.in-SpanJoin.kind c.in-SpanJoin.lc c.in-SpanJoin.rc c.in-SpanJoin.conditional) =
    subst (λ (node : Node). MayPut c.args.nodes.now c.args.to.now (Some c.in-Some.near) node) c.in-SpanJoin.is
    (subst (λ (near : Option Near). MayPut c.args.nodes.now c.args.to.now near c.args.node) c.in-Some.is c.requires.may) in
    omega (arith, may.0.left_below, length-each no_shape shape_by c.args.nodes.now)
