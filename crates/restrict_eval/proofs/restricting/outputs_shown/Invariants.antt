use Rattle.std.proofs.Common.{◌≡◌, map}
use Rattle.algebra.specs.Mapping.{renumbered}
use Rattle.restrict_eval.proofs.restricting.outputs_shown.Given as goal

abbrev pub invariant-loop-out : goal.invariant-loop-out
invariant-loop-out l = l.new.items ≡ map (renumbered l.to) l.yielded
