use Rattle.std.proofs.Common.{◌≡◌, map}
use Rattle.algebra.specs.Mapping.{renumbered}
use Rattle.algebra.proofs.rewrite.outputs_renumbered.Given as goal

abbrev pub invariant-loop-out : goal.invariant-loop-out
invariant-loop-out l = l.new.items ≡ map (renumbered l.to) l.yielded
