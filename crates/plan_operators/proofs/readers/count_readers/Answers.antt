use Rattle.std.proofs.Common.{◌≡◌, ℕ, map}
use Rattle.std.proofs.lemmas.List.Elements.{All-map}
use Rattle.algebra.specs.declared.output.PlanOut.{PlanOut}
use Rattle.plan_operators.specs.Readers.{number_of_readers}
use Rattle.plan_operators.proofs.Scheduling.{counted-none}
use Rattle.plan_operators.proofs.readers.count_readers.Goals as goal

pub returns-clause-counted : goal.returns-clause-counted
returns-clause-counted c =
    let outs = map (λ (out : PlanOut). out.node) c.args.outputs.now in
    let readers = c.count_shown.new.readers.items in
    c.count_from_last.ensures.counted outs
    (counted-none c.args.nodes.now outs readers (All-map (λ (k : ℕ). number_of_readers readers k ≡ 1) (λ (out : PlanOut). out.node) c.args.outputs.now c.count_shown.ensures.shown))
