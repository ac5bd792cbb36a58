use Rattle.std.proofs.Common.{◌∙◌, ◌<◌, ℕ, length, map, sym, subst, arith}
use Rattle.std.proofs.lemmas.Bool.{lt-ltb}
use Rattle.std.proofs.lemmas.List.{get_or_default}
use Rattle.algebra.specs.declared.output.PlanOut.{PlanOut}
use Rattle.algebra.specs.Plans.{Parts}
use Rattle.plan_operators.specs.Readers.{IsScheduled}
use Rattle.plan_operators.proofs.Scheduling.{needed-read}
use Rattle.plan_operators.proofs.schedule.Schedule.is_read.Goals as goal

pub returns : goal.returns
returns c = λ doc needed.
    let plan = c.args.self.now in
    let readers = c.self.inside.readers.items in
    let is = subst (λ (parts : Parts). IsScheduled parts readers) c.self.view_is c.self.invariant in
    let there : c.args.n < length readers = omega (arith, is.long, c.requires.in_range) in
    let read = needed-read plan.nodes (map (λ (out : PlanOut). out.node) plan.outputs) readers is.counted plan.lists doc c.args.n needed in
    lt-ltb 0 c.index.result.now (subst (λ (number : ℕ). 0 < number) (get_or_default readers c.args.n 0 c.index.result.now there ∙ sym c.index.ensures) read)
