use Rattle.std.proofs.Common.{◌≡◌, ◌∙◌, ◌<◌, ap, sym, ℕ, length, get_or, arith}
use Rattle.std.proofs.lemmas.List.Sums.{count_by-le-length}
use Rattle.view_graph.specs.Search.{used_in, is_ranked}
use Rattle.view_graph.proofs.Walking.{used_is, edge_at, scan_more}
use Rattle.view_graph.proofs.search.scan.Goals as goal

pub bounds : goal.bounds
bounds c =
    let used = c.as_slice-used.result.now in
    let same : used ≡ used_in c.args.uses.now c.args.first.view = used_is c.args.uses.now c.args.first.view c.index-uses-first.result used c.as_slice-used.ensures c.index-uses-first.is c.requires.within in
    let below : get_or used c.loop-frame.frame.next 0 < length c.args.uses.now =
    c.requires.graph c.args.first.view (get_or used c.loop-frame.frame.next 0) (edge_at c.args.uses.now c.args.first.view used same c.loop-frame.frame.next c.loop-frame-test.true) in
    omega (arith, below, c.requires.marked)

pub passed-frame-requires-clause-low : goal.passed-frame-requires-clause-low
passed-frame-requires-clause-low c =
    let h = c.requires.ranked (get_or c.as_slice-used.result.now c.loop-frame.frame.next 0) c.in-Ranked.rank c.in-Ranked.is in
    omega (arith, h.1, count_by-le-length is_ranked c.args.marks.now, c.requires.marked, c.requires.short)

pub loop-frame-preserved : goal.loop-frame-preserved
loop-frame-preserved c =
    let used = c.as_slice-used.result.now in
    let same : used ≡ used_in c.args.uses.now c.loop-frame.frame.view =
    used_is c.args.uses.now c.args.first.view c.index-uses-first.result used c.as_slice-used.ensures c.index-uses-first.is c.requires.within
    ∙ ap (λ (p : ℕ). used_in c.args.uses.now p) (sym c.loop-frame.invariant.0) in
    let more = scan_more c.args.uses.now c.args.marks.now c.requires.ranked c.loop-frame.frame c.passed-frame.result c.in-Ranked.rank used same c.loop-frame-test.true c.in-Ranked.is
    c.loop-frame.invariant.1 c.loop-frame.invariant.2 c.passed-frame.ensures.view c.passed-frame.ensures.next c.passed-frame.ensures.rank in
    (c.passed-frame.ensures.view ∙ c.loop-frame.invariant.0, more.0, more.1)
