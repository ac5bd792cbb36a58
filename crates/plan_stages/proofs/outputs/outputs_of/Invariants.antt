use Rattle.std.proofs.Common.{◌≡◌, map, take}
use Rattle.plan_stages.proofs.outputs.outputs_of.Given as goal

abbrev pub invariant-loop-out : goal.invariant-loop-out
invariant-loop-out l = l.outputs.items ≡ map (λ out. out.names) (take l.out-index l.plan.outputs)
