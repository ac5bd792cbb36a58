use Rattle.std.proofs.Common.{◌≡◌, map, take}
use Rattle.plan_operators_tests.proofs.standing.names_of.Given as goal

abbrev pub invariant-loop-out : goal.invariant-loop-out
invariant-loop-out l = l.names.items ≡ map (λ out. out.names.name) (take l.out-index l.outputs)
