use Rattle.std.proofs.Common.{◌≡◌, ◌+◌, ◌-◌, length, drop, chars}
use Rattle.std.specs.List.{prefix_len}
use Rattle.span_token.specs.Words.{is_word_char}
use Rattle.span_token.specs.Points.{IsPoint}
use Rattle.span_token.proofs.points.past_word.Given as goal

abbrev pub invariant-loop-class : goal.invariant-loop-class
invariant-loop-class l = record {
  point : IsPoint l.text l.at;
  run : l.at.place + prefix_len is_word_char (drop l.at.place (chars l.text)) ≡ l.fn.from.place + prefix_len is_word_char (drop l.fn.from.place (chars l.text));
}

abbrev pub decreases-loop-class : goal.decreases-loop-class
decreases-loop-class l = length (chars l.text) - l.at.place
