use Rattle.std.proofs.Common.{◌≡◌, ◌≤◌, length}
use Rattle.aql_regex_extract.specs.Weight.{number_at, number_after, after_digits, most_weight}
use Rattle.aql_regex_extract.specs.Capped.{capped}
use Rattle.aql_regex_extract.proofs.weight.read_number.Given as goal

abbrev pub invariant-digits : goal.invariant-digits
invariant-digits l = record {
  small : l.number ≤ most_weight;
  number : capped (number_after l.number l.rest) ≡ capped (number_at l.text);
  rest : after_digits l.rest ≡ after_digits l.text;
  shorter : length l.rest ≤ length l.text;
}

abbrev pub decreases-digits : goal.decreases-digits
decreases-digits l = length l.rest
