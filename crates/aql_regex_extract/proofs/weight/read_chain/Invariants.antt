use Rattle.std.proofs.Common.{◌≡◌, ◌*◌, ◌≤◌, length}
use Rattle.aql_regex_extract.specs.Weight.{chain_at, most_weight}
use Rattle.aql_regex_extract.specs.Capped.{capped, after_chain}
use Rattle.aql_regex_extract.proofs.weight.read_chain.Given as goal

abbrev pub invariant-counts : goal.invariant-counts
invariant-counts l = record {
  small : l.number ≤ most_weight;
  number : capped (l.number * chain_at l.rest) ≡ capped (chain_at l.text);
  rest : after_chain l.rest ≡ after_chain l.text;
  shorter : length l.rest ≤ length l.text;
}

abbrev pub decreases-counts : goal.decreases-counts
decreases-counts l = length l.rest
