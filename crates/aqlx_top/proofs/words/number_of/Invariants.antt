use Rattle.std.proofs.Common.{◌≡◌, ◌+◌, ◌≤◌, min, drop}
use Rattle.std.specs.Char.{is_ascii_digit}
use Rattle.std.specs.List.{list_all}
use Rattle.aqlx_top.specs.Words.{number_behind}
use Rattle.aqlx_top.proofs.words.number_of.Given as goal

abbrev pub invariant-loop-digit : goal.invariant-loop-digit
invariant-loop-digit l = record {
  small : l.number ≤ l.most + 1;
  digits : list_all is_ascii_digit (drop l.digit-index l.word) ≡ list_all is_ascii_digit l.word;
  number : min (l.most + 1) (number_behind l.number (drop l.digit-index l.word)) ≡ min (l.most + 1) (number_behind 0 l.word);
}
