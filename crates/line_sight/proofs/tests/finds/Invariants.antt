use Rattle.line_sight.specs.Seen.{Sees}
use Rattle.line_sight.proofs.tests.finds.Given as goal

abbrev pub invariant-loop-line : goal.invariant-loop-line
invariant-loop-line g l = record {
  sees : Sees l.seen l.sight;
}
