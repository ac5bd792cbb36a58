use Rattle.span_sets.specs.LawProofs.Sweeps.{IsSwept}
use Rattle.span_sets.proofs.left_to_right.left_to_right.Given as goal

abbrev pub invariant-loop-i : goal.invariant-loop-i
invariant-loop-i l = IsSwept l.sorted l.answers.items l.i l.farthest l.last
