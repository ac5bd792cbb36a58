use Rattle.std.proofs.Common.{◌<◌, length, sym, subst}
use Rattle.algebra.specs.declared.output.PlanOut.{PlanOut}
use Rattle.algebra.specs.Plans.{Parts}
use Rattle.worker_pool.specs.Pages.{IsAlwaysWanted}
use Rattle.worker_pool.proofs.Paging.{output-there, output-wanted}
use Rattle.worker_pool.proofs.window.Window.output.Goals as goal

pub returns-clause-there : goal.returns-clause-there
returns-clause-there g c =
    let plan = c.args.self.now.plan.now in
    let out = c.index-outputs-i.result in
    let plan_is = c.args.self.now.plan_is in
    let below = subst (λ (p : Parts). c.args.i < length p.outputs) (sym plan_is) c.requires.in_range in
    subst (λ (o : PlanOut). o.node < length g.W.Work.plan.nodes) c.index-outputs-i.is
    (subst (λ (p : Parts). out.node < length p.nodes) plan_is (output-there plan c.outputs.result.now c.args.i out c.outputs.ensures.valid c.outputs.ensures.outputs below c.index-outputs-i.is))

pub returns-clause-wanted : goal.returns-clause-wanted
returns-clause-wanted g c =
    let plan = c.args.self.now.plan.now in
    let out = c.index-outputs-i.result in
    let plan_is = c.args.self.now.plan_is in
    let below = subst (λ (p : Parts). c.args.i < length p.outputs) (sym plan_is) c.requires.in_range in
    subst (λ (o : PlanOut). IsAlwaysWanted g.W.Work.plan o.node) c.index-outputs-i.is
    (subst (λ (p : Parts). IsAlwaysWanted p out.node) plan_is (output-wanted plan c.outputs.result.now c.args.i out c.outputs.ensures.valid c.outputs.ensures.outputs below c.index-outputs-i.is))
