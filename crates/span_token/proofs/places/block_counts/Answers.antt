use Rattle.std.proofs.Common.{◌≡◌, ◌+◌, ◌*◌, ◌∙◌, ap, arith, take}
use Rattle.std.proofs.lemmas.List.{length_push}
use Rattle.span_token.specs.Leads.{leads}
use Rattle.span_token.proofs.BlockLemmas.{counts_more, leads_from}
use Rattle.span_token.proofs.places.block_counts.Goals as goal

pub loop-block-preserved : goal.loop-block-preserved
loop-block-preserved c =
    let more : 64 * c.loop-block.block + 64 ≡ 64 * (c.loop-block.block + 1) = omega arith in
    let passed : c.loop-block.passed + c.count_leads.result ≡ leads (take (64 * (c.loop-block.block + 1)) c.args.bytes.now) =
    omega (arith, c.count_leads.ensures, c.loop-block.invariant.1, leads_from c.args.bytes.now (64 * c.loop-block.block) (64 * c.loop-block.block + 64) (omega arith), ap (λ n. leads (take n c.args.bytes.now)) more)
    in
    rw c.in_ok-push-2.ensures.items
    (length_push c.loop-block.counts.items (c.loop-block.passed + c.count_leads.result) ∙ ap (λ n. n + 1) c.loop-block.invariant.0, passed, counts_more c.loop-block.counts.items c.args.bytes.now c.loop-block.block (c.loop-block.passed + c.count_leads.result) c.loop-block.invariant.0 passed c.loop-block.invariant.2)
