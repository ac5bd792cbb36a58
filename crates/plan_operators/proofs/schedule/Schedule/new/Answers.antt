use Rattle.std.proofs.Common.{◌∙◌, ◌<◌, List, length, sym, subst, All}
use Rattle.algebra.specs.declared.node.Node.{Node}
use Rattle.algebra.specs.declared.output.PlanOut.{PlanOut}
use Rattle.plan_operators.proofs.Boards.{outputs-there}
use Rattle.plan_operators.proofs.Scheduling.{scheduled}
use Rattle.plan_operators.proofs.schedule.Schedule.new.Goals as goal

pub count_readers-requires : goal.count_readers-requires
count_readers-requires c =
    let plan = c.args.plan.now in
    record {
      there = subst (λ (outs : List PlanOut). All (λ (out : PlanOut). out.node < length c.nodes.result.now) outs) (sym c.outputs.ensures.outputs)
          (subst (λ (ns : List Node). All (λ (out : PlanOut). out.node < length ns) plan.outputs) (sym c.nodes.ensures) (outputs-there plan.nodes plan.outputs c.outputs.ensures.valid));
    }

pub invariant_of-result : goal.invariant_of-result
invariant_of-result c =
    scheduled c.args.plan.now c.nodes.result.now c.outputs.result.now c.in_ok-readers.readers.items c.nodes.ensures c.outputs.ensures.outputs c.outputs.ensures.valid
    (sym c.in_ok-readers.readers.ok.0 ∙ c.in_ok-readers.ensures.long) c.in_ok-readers.ensures.counted
