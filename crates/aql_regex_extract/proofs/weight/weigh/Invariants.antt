use Rattle.std.proofs.Common.{◌≡◌, ◌+◌, ◌<◌, ◌≤◌, ℕ, All, length, vec_len, false}
use Rattle.aql_regex_extract.specs.Weight.{chains_in, greatest_at}
use Rattle.aql_regex_extract.specs.Capped.{capped, greatest_known, IsCounted}
use Rattle.aql_regex_extract.proofs.weight.weigh.Given as goal

abbrev pub invariant-pieces : goal.invariant-pieces
invariant-pieces l = record {
  known : l.depth < vec_len l.greatest;
  counted : All IsCounted l.greatest.items;
  room : vec_len l.greatest + length l.rest ≤ length l.text + 1;
  kept : (d : ℕ) → greatest_known l.greatest.items l.depth l.rest d ≡ capped (greatest_at (chains_in false 0 l.text) d);
}

abbrev pub decreases-pieces : goal.decreases-pieces
decreases-pieces l = length l.rest
