use Rattle.std.proofs.Common.{◌<◌, List, sym, subst, length}
use Rattle.algebra.specs.declared.output.PlanOut.{PlanOut}
use Rattle.algebra.specs.Plans.{AreOutputs}
use Rattle.share_plan.proofs.Walking.{all-there, shown-more, shown-all}
use Rattle.share_plan.proofs.ordering.order_of.Goals as goal

pub walk-requires-clause-there : goal.walk-requires-clause-there
walk-requires-clause-there c =
    let nodes = c.args.plan.now.nodes in
    let outs : AreOutputs nodes c.outputs-out-items.result.now = subst (λ (os : List PlanOut). AreOutputs nodes os) (sym c.outputs-out-items.ensures.outputs) c.outputs-out-items.ensures.valid in
    subst (λ (out : PlanOut). out.node < length nodes) (sym c.out-item.is)
    (all-there nodes c.outputs-out-items.result.now outs c.loop-out.out-index c.out-item.result c.loop-out-test.true)

pub loop-out-preserved : goal.loop-out-preserved
loop-out-preserved c = record {
  walked = c.in_ok-walk.ensures.walked;
  shown = shown-more c.loop-out.order.marks.items c.walk.new.order.marks.items c.outputs-out-items.result.now c.loop-out.out-index c.out-item.result c.loop-out-test.true c.out-item.is
      c.in_ok-walk.ensures.more c.in_ok-walk.ensures.put c.loop-out.invariant.shown;
}

pub returns : goal.returns
returns c = record {
  walked = c.loop-out.invariant.walked;
  all = shown-all c.loop-out.order.marks.items c.args.plan.now.outputs c.outputs-out-items.result.now c.loop-out.out-index c.outputs-out-items.ensures.outputs c.loop-out-test.false c.loop-out.invariant.shown;
}
