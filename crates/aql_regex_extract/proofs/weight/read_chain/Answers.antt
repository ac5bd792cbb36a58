use Rattle.std.proofs.Common.{◌≡◌, ◌*◌, ◌∙◌, length, Some, arith, ap, ap₂, sym}
use Rattle.aql_regex_extract.specs.Weight.{Count, count_at, chain_at}
use Rattle.aql_regex_extract.specs.Capped.{capped, after_chain}
use Rattle.aql_regex_extract.proofs.Counts.{count_at-shorter, chain_at-None, chain_at-Some, after_chain-None, after_chain-Some, capped-mul-next, capped_count-Some, capped_count-None}
use Rattle.aql_regex_extract.proofs.weight.read_chain.Goals as goal
use Rattle.aql_regex_extract.proofs.weight.read_chain.Goals.{In-Some}

-- the count of this turn
count : (c : In-Some) → (k : Count) × (count_at c.counts.rest.now ≡ Some k) × (c.in-Some.count ≡ capped k.number) × (c.in-Some.others.now ≡ k.rest)
count c = capped_count-Some (count_at c.counts.rest.now) c.in-Some.count c.in-Some.others.now c.in-Some.ensures

pub counts-smaller : goal.counts-smaller
counts-smaller c =
    let k = count (goal.at.counts-smaller c).In-Some in
    let short = count_at-shorter c.counts.rest.now k.0 k.1 in
    omega (arith, short, ap length k.3)

pub counts-preserved : goal.counts-preserved
counts-preserved c =
    let k = count (goal.at.counts-preserved c).In-Some in
    let n = c.counts.number in
    let short = count_at-shorter c.counts.rest.now k.0 k.1 in
    record {
      small = omega (arith, c.min-number.ensures);
      number = ap₂ (λ m r. capped (m * chain_at r)) (c.min-number.ensures ∙ ap (λ m. capped (n * m)) k.2) k.3
          ∙ capped-mul-next n k.0.number (chain_at k.0.rest)
          ∙ ap (λ m. capped (n * m)) (sym (chain_at-Some c.counts.rest.now k.0 k.1))
          ∙ c.counts.invariant.number;
      rest = ap after_chain k.3 ∙ sym (after_chain-Some c.counts.rest.now k.0 k.1) ∙ c.counts.invariant.rest;
      shorter = omega (arith, short, ap length k.3);
    }

pub returns-clause-number : goal.returns-clause-number
returns-clause-number c =
    let none = capped_count-None (count_at c.counts.rest.now) c.in_default.ensures in
    let one = chain_at-None c.counts.rest.now none in
    omega (arith, c.counts.invariant.small, c.counts.invariant.number, ap (λ m. capped (c.counts.number * m)) one)

pub returns-clause-rest : goal.returns-clause-rest
returns-clause-rest c =
    let none = capped_count-None (count_at c.counts.rest.now) c.in_default.ensures in
    sym (after_chain-None c.counts.rest.now none) ∙ c.counts.invariant.rest
