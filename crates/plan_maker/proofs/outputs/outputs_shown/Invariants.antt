use Rattle.std.proofs.Common.{◌≡◌, map, take}
use Rattle.plan_maker.specs.Grounds.{output_shown}
use Rattle.plan_maker.proofs.outputs.outputs_shown.Given as goal

abbrev pub invariant-loop-out : goal.invariant-loop-out
invariant-loop-out l = l.shown.items ≡ map (output_shown l.views l.below) (take l.out-index l.outputs)
