use Rattle.std.proofs.Common.{◌≤◌, length, arith, subst}
use Rattle.std.proofs.lemmas.List.{take_all}
use Rattle.worker_pool.specs.Pages.{AreKnown}
use Rattle.worker_pool.proofs.fill.fill_outputs.Goals as goal

pub returns-clause-known : goal.returns-clause-known
returns-clause-known g c =
    let all : length g.W.Work.plan.outputs ≤ c.each.i = omega arith in
    subst (AreKnown c.each.walk.page.items) (take_all c.each.i g.W.Work.plan.outputs all) c.each.invariant.known
