use Rattle.std.proofs.Common.{◌∙◌, ◌==◌, max, false, slice_index_or, ap, ap₂, sym, arith}
use Rattle.aql_regex_extract.specs.Weight.{chain_at, chains_in, greatest_at}
use Rattle.aql_regex_extract.specs.Capped.{capped, after_chain}
use Rattle.aql_regex_extract.proofs.Chains.{chain_at-positive, greatest_at-positive, greatest_at-chain, known-chain}
use Rattle.aql_regex_extract.proofs.weight.read_piece.Goals as goal

pub raise-requires-clause-counted : goal.raise-requires-clause-counted
raise-requires-clause-counted c =
    let one = chain_at-positive c.args.text.now in
    (omega (arith, one, c.read_chain-number.ensures.number), omega (arith, c.read_chain-number.ensures.number))

pub returns-then-rest-text-clause-kept : goal.returns-then-rest-text-clause-kept
returns-then-rest-text-clause-kept c = λ d.
    let depth = c.args.depth in
    let text = c.args.text.now in
    let old = slice_index_or c.args.greatest.now.items d 1 in
    let rest = chains_in false depth (after_chain text) in
    ap₂ (λ g t. max g (capped (greatest_at (chains_in false depth t) d))) (c.raise.ensures.raised d) c.read_chain-number.ensures.rest
    ∙ known-chain (depth == d) old c.read_chain-number.result.0 (chain_at text) (greatest_at rest d) c.read_chain-number.ensures.number (greatest_at-positive rest d)
    ∙ ap (λ g. max old (capped g)) (sym (greatest_at-chain depth text d))
