use Rattle.std.proofs.Common.{◌≡◌, ℕ, ◌+◌, ◌-◌, ◌<◌, ◌≤◌, ◌↔◌, List, length, map, min, max, sym, subst, arith, All, inl, inr}
use Rattle.std.proofs.lemmas.Bool.{cases_lt}
use Rattle.std.proofs.lemmas.List.{length-map}
use Rattle.std.proofs.lemmas.List.Elements.{All-append, All-map, All-contains_itself}
use Rattle.std.specs.List.{range_with_len}
use Rattle.span_token.specs.Documents.{Doc, LiesIn}
use Rattle.span_token.specs.Extents.{Extent, extent_of, nth_extent}
use Rattle.span_token.specs.SourceTokens.{run_extent}
use Rattle.span_token.specs.declared.span.Span.{Span}
use Rattle.span_token.specs.RisingLists.{in_range}
use Rattle.span_sets.specs.Blocks.{IsNeighbour}
use Rattle.span_sets.specs.LawProofs.BlockLists.{HasRuns, HasRuns-next, HasRuns-all}
use Rattle.span_sets.proofs.RowOrders.{All-shown}
use Rattle.span_sets.specs.LawProofs.SpanLists.{spans_ordered, begins_rise}
use Rattle.span_sets.proofs.block_runs.runs.Goals as goal

pub push_blocks-requires-clause-ordered : goal.push_blocks-requires-clause-ordered
push_blocks-requires-clause-ordered c = λ j low high.
    let spans : List Extent = map extent_of c.args.spans.now in
    let later : c.loop-i.i ≤ j = omega (arith, low, c.saturating_add-from.ensures, c.loop-i-test.true, c.min-to.ensures, c.chain_end-end.ensures.within, high, c.saturating_add.ensures) in
    let short : j < length spans = omega (arith, high, c.min-to.ensures, c.chain_end-end.ensures.within, length-map c.args.spans.now extent_of) in
    omega (arith, begins_rise spans c.requires.rising c.loop-i.i j later short, spans_ordered c.args.spans.now j)

-- where the first span of a list of runs stands, and how many spans a run may have
begins_by : (i from to low most : ℕ) → from ≡ min (i + (most - 1)) 18446744073709551615 → most ≡ max low 1 → to ≤ 18446744073709551615 → (j : ℕ) → j < to → (from ≤ j) ↔ ((i ≤ j) × (low ≤ (j - i) + 1))
begins_by i from to low most is most_is small j h = ((λ g. (omega (arith, g, is, most_is, small, h), omega (arith, g, is, most_is, small, h))), (λ g. omega (arith, g, is, most_is, small, h)))

ends_by : (i end to high sum : ℕ) → to ≡ min end sum → sum ≡ min (i + high) 18446744073709551615 → end ≤ 18446744073709551615 → (j : ℕ) → i ≤ j → (j < to) ↔ ((j < end) × ((j - i) + 1 ≤ high))
ends_by i end to high sum is sum_is small j h = ((λ g. (omega (arith, g, is, sum_is, small, h), omega (arith, g, is, sum_is, small, h))), (λ g. omega (arith, g, is, sum_is, small, h)))

-- blocks lie in the document that their spans lie in
blocks_lie : (doc : Doc) (spans : List Span) (i from to : ℕ) → All (λ s. LiesIn (extent_of s) doc) spans → to ≤ length spans → All (λ e. LiesIn e doc) (map (run_extent (map extent_of spans) i) (range_with_len from (to - from)))
blocks_lie doc spans i from to all within =
    All-map (λ e. LiesIn e doc) (run_extent (map extent_of spans) i) (range_with_len from (to - from)) (λ k d h.
    let there = in_range from (to - from) _ (All-contains_itself (range_with_len from (to - from)) k d h) in
    All-map (λ e. LiesIn e doc) extent_of spans all _ (record { begin = 0; end = 0 }) (omega (arith, there, within, length-map spans extent_of)))

pub loop-i-preserved : goal.loop-i-preserved
loop-i-preserved c =
    let doc : Doc = c.args.doc.now in
    let IsNext : Extent → Extent → Type 0 = IsNeighbour doc c.args.separation.tokens c.args.separation.low c.args.separation.high in
    let spans : List Extent = map extent_of c.args.spans.now in
    let many = length-map c.args.spans.now extent_of in
    let i : ℕ = c.loop-i.i in
    let end : ℕ = c.chain_end-end.result in
    let after : max c.loop-i.end (i + 1) ≤ end = omega (arith, c.chain_end-end.ensures.after, c.max.ensures) in
    let chained : (k : ℕ) → i ≤ k → k + 1 < end → IsNext (nth_extent spans k) (nth_extent spans (k + 1)) = λ k g h. elim (cases_lt (k + 1) (max c.loop-i.end (i + 1))) [
      | inl near ↦ c.loop-i.invariant.chained k g (omega (arith, near, g))
      | inr far ↦ c.chain_end-end.ensures.chained k (omega (arith, far, c.max.ensures)) h
    ] in
    let to_small : c.min-to.result ≤ 18446744073709551615 = omega (arith, c.min-to.ensures, c.saturating_add.ensures) in
    let end_small : end ≤ 18446744073709551615 = omega (arith, c.chain_end-end.type_inv) in
    let next = HasRuns-next IsNext c.args.low c.args.high spans i end c.saturating_add-from.result c.min-to.result (omega (arith, after)) (omega (arith, c.chain_end-end.ensures.within, many)) chained
    (λ h. c.chain_end-end.ensures.stopped (omega (arith, h, many)))
    (begins_by i c.saturating_add-from.result c.min-to.result c.args.low c.max-in-loop-i.result c.saturating_add-from.ensures c.max-in-loop-i.ensures to_small)
    (ends_by i end c.min-to.result c.args.high c.saturating_add.result c.min-to.ensures c.saturating_add.ensures end_small)
    (map extent_of c.loop-i.found.items) c.loop-i.invariant.has in
    record {
      has = subst (λ (found : List Extent). HasRuns IsNext c.args.low c.args.high spans (i + 1) found) (sym c.in_ok-push_blocks.ensures.blocks) next;
      in_document = All-shown (λ e. LiesIn e doc) extent_of c.push_blocks.new.found.items
          (subst (λ (found : List Extent). All (λ e. LiesIn e doc) found) (sym c.in_ok-push_blocks.ensures.blocks)
          (All-append (λ e. LiesIn e doc) (map extent_of c.loop-i.found.items) _ (All-map (λ e. LiesIn e doc) extent_of c.loop-i.found.items c.loop-i.invariant.in_document)
          (blocks_lie doc c.args.spans.now i c.saturating_add-from.result c.min-to.result c.requires.in_document (omega (arith, c.min-to.ensures, c.chain_end-end.ensures.within)))));
      within = c.chain_end-end.ensures.within;
      chained = λ k g h. chained k (omega (arith, g)) h;
    }

pub returns-clause-blocks : goal.returns-clause-blocks
returns-clause-blocks c =
    let IsNext : Extent → Extent → Type 0 = IsNeighbour c.args.doc.now c.args.separation.tokens c.args.separation.low c.args.separation.high in
    let spans : List Extent = map extent_of c.args.spans.now in
    let all : c.loop-i.i ≡ length spans = omega (arith, c.loop-i.auto.i-end, c.loop-i-test.false, length-map c.args.spans.now extent_of) in
    HasRuns-all IsNext c.args.low c.args.high spans (map extent_of c.loop-i.found.items) (subst (λ (n : ℕ). HasRuns IsNext c.args.low c.args.high spans n (map extent_of c.loop-i.found.items)) all c.loop-i.invariant.has)
