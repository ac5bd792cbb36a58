use Rattle.std.proofs.Common.{◌≡◌, ◌-◌, length, chars}
use Rattle.span_token.specs.Tokens.{tokens_from}
use Rattle.span_token.specs.Points.{IsPoint, IsSeam}
use Rattle.span_token.proofs.scan.next_token.Given as goal

abbrev pub invariant-loop-class : goal.invariant-loop-class
invariant-loop-class l = record {
  point : IsPoint l.text l.at;
  seam : IsSeam (chars l.text) l.at.place;
  same : tokens_from (chars l.text) l.at.place ≡ tokens_from (chars l.text) l.fn.from.place;
}

abbrev pub decreases-loop-class : goal.decreases-loop-class
decreases-loop-class l = length (chars l.text) - l.at.place
