use Rattle.std.proofs.Common.{◌≡◌, ◌++◌, take, string_bytes, flat_map}
use Rattle.plan_maker.specs.PlanTexts.{output_line}
use Rattle.plan_maker.proofs.text.push_outputs.Given as goal

abbrev pub invariant-loop-out : goal.invariant-loop-out
invariant-loop-out l = string_bytes l.text ≡ string_bytes l.fn.text ++ flat_map output_line (take l.out-index l.outputs)
