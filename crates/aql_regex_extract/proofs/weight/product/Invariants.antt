use Rattle.std.proofs.Common.{◌≡◌, ◌≤◌, slice_index}
use Rattle.aql_regex_extract.specs.Weight.{product_below, most_weight}
use Rattle.aql_regex_extract.specs.Capped.{capped}
use Rattle.aql_regex_extract.proofs.weight.product.Given as goal

abbrev pub invariant-loop-number : goal.invariant-loop-number
invariant-loop-number l = record {
  small : l.product ≤ most_weight;
  product : l.product ≡ capped (product_below (slice_index l.numbers) l.number-index);
}
