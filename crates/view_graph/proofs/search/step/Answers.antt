use Rattle.std.proofs.Common.{◌≡◌, ◌∙◌, ◌++◌, ◌∷◌, [], ◌<◌, ap, sym, subst, List, ℕ, length, get_or, set, arith}
use Rattle.view_graph.specs.declared.search.Mark.TheVariants.{Open, Ranked}
use Rattle.view_graph.specs.declared.search.Frame.{Frame}
use Rattle.view_graph.specs.Search.{used_in, mark_at, begun, IsCircle}
use Rattle.view_graph.proofs.Walking.{used_is, edge_at, last_within, last_scanned, last_low, replaced, goes_on_ranked, goes_on_entered, circle_found, unseen_from}
use Rattle.view_graph.proofs.search.step.Goals as goal

pub scan-frame-requires-clause-scanned : goal.scan-frame-requires-clause-scanned
scan-frame-requires-clause-scanned c = last_scanned c.args.uses.now c.args.marks.now c.args.stack.now.items c.args.frame c.requires.search

pub scan-frame-requires-clause-low : goal.scan-frame-requires-clause-low
scan-frame-requires-clause-low c = last_low c.args.uses.now c.args.marks.now c.args.stack.now.items c.args.frame c.requires.search

pub bounds-uses-frame : goal.bounds-uses-frame
bounds-uses-frame c =
    subst (λ (p : ℕ). p < length c.args.uses.now) (sym c.scan-frame.ensures.view) (last_within c.args.uses.now c.args.marks.now c.args.stack.now.items c.args.frame c.requires.search)

pub bounds-marks-frame : goal.bounds-marks-frame
bounds-marks-frame c =
    let within = last_within c.args.uses.now c.args.marks.now c.args.stack.now.items c.args.frame c.requires.search in
    omega (arith, within, c.scan-frame.ensures.view, c.requires.search.marked)

pub returns-then-frame-used : goal.returns-then-frame-used
returns-then-frame-used c =
    let within = last_within c.args.uses.now c.args.marks.now c.args.stack.now.items c.args.frame c.requires.search in
    let g = c.scan-frame.result in
    let same : c.as_slice-used.result.now ≡ used_in c.args.uses.now g.view =
    used_is c.args.uses.now g.view c.index-uses-frame.result c.as_slice-used.result.now c.as_slice-used.ensures c.index-uses-frame.is (subst (λ (p : ℕ). p < length c.args.uses.now) (sym c.scan-frame.ensures.view) within) in
    goes_on_ranked c.args.uses.now c.args.marks.now c.args.stack.now.items g
    (replaced c.args.uses.now c.args.marks.now c.args.stack.now.items c.args.frame c.requires.search g c.scan-frame.ensures.view c.scan-frame.ensures.scanned c.scan-frame.ensures.low)
    (omega (arith, ap (λ (u : List ℕ). length u) same, c.if-frame-used.true, c.scan-frame.ensures.scanned.within))

pub bounds : goal.bounds
bounds c =
    let within = last_within c.args.uses.now c.args.marks.now c.args.stack.now.items c.args.frame c.requires.search in
    let g = c.scan-frame.result in
    let used = c.as_slice-used.result.now in
    let same : used ≡ used_in c.args.uses.now g.view =
    used_is c.args.uses.now g.view c.index-uses-frame.result used c.as_slice-used.ensures c.index-uses-frame.is (subst (λ (p : ℕ). p < length c.args.uses.now) (sym c.scan-frame.ensures.view) within) in
    let below : get_or used g.next 0 < length c.args.uses.now = c.requires.graph g.view (get_or used g.next 0) (edge_at c.args.uses.now g.view used same g.next c.if-frame-used.false) in
    omega (arith, below, c.requires.search.marked)

pub returns-in-Open : goal.returns-in-Open
returns-in-Open c =
    let within = last_within c.args.uses.now c.args.marks.now c.args.stack.now.items c.args.frame c.requires.search in
    let g = c.scan-frame.result in
    let used = c.as_slice-used.result.now in
    let same : used ≡ used_in c.args.uses.now g.view =
    used_is c.args.uses.now g.view c.index-uses-frame.result used c.as_slice-used.ensures c.index-uses-frame.is (subst (λ (p : ℕ). p < length c.args.uses.now) (sym c.scan-frame.ensures.view) within) in
    subst (λ (way : List Frame). IsCircle c.args.uses.now c.args.marks.now way c.in-Open.depth) (sym c.in_ok-push.ensures.items)
    (circle_found c.args.uses.now c.args.marks.now c.args.stack.now.items g
    (replaced c.args.uses.now c.args.marks.now c.args.stack.now.items c.args.frame c.requires.search g c.scan-frame.ensures.view c.scan-frame.ensures.scanned c.scan-frame.ensures.low)
    (get_or used g.next 0) c.in-Open.depth c.in-Open.is (edge_at c.args.uses.now g.view used same g.next c.if-frame-used.false))

pub enter-requires : goal.enter-requires
enter-requires c =
    let within = last_within c.args.uses.now c.args.marks.now c.args.stack.now.items c.args.frame c.requires.search in
    let g = c.scan-frame.result in
    let used = c.as_slice-used.result.now in
    let same : used ≡ used_in c.args.uses.now g.view =
    used_is c.args.uses.now g.view c.index-uses-frame.result used c.as_slice-used.ensures c.index-uses-frame.is (subst (λ (p : ℕ). p < length c.args.uses.now) (sym c.scan-frame.ensures.view) within) in
    let below : get_or used g.next 0 < length c.args.uses.now = c.requires.graph g.view (get_or used g.next 0) (edge_at c.args.uses.now g.view used same g.next c.if-frame-used.false) in
    omega (arith, below, c.requires.search.marked)

pub returns : goal.returns
returns c =
    let within = last_within c.args.uses.now c.args.marks.now c.args.stack.now.items c.args.frame c.requires.search in
    let g = c.scan-frame.result in
    let used = c.as_slice-used.result.now in
    let view = get_or used g.next 0 in
    let same : used ≡ used_in c.args.uses.now g.view =
    used_is c.args.uses.now g.view c.index-uses-frame.result used c.as_slice-used.ensures c.index-uses-frame.is (subst (λ (p : ℕ). p < length c.args.uses.now) (sym c.scan-frame.ensures.view) within) in
    let at_first : used ≡ used_in c.args.uses.now c.args.frame.view = same ∙ ap (λ (p : ℕ). used_in c.args.uses.now p) c.scan-frame.ensures.view in
    let edge = edge_at c.args.uses.now g.view used same g.next c.if-frame-used.false in
    let stopped : (rank : ℕ) → mark_at c.args.marks.now view ≡ Ranked rank → ⊥ = λ (rank : ℕ). λ (is : mark_at c.args.marks.now view ≡ Ranked rank).
    c.scan-frame.ensures.stopped (subst (λ (u : List ℕ). g.next < length u) at_first c.if-frame-used.false) rank
    (subst (λ (u : List ℕ). mark_at c.args.marks.now (get_or u g.next 0) ≡ Ranked rank) at_first is) in
    goes_on_entered c.args.uses.now c.args.marks.now c.args.stack.now.items g
    (replaced c.args.uses.now c.args.marks.now c.args.stack.now.items c.args.frame c.requires.search g c.scan-frame.ensures.view c.scan-frame.ensures.scanned c.scan-frame.ensures.low)
    view (c.requires.graph g.view view edge) (unseen_from c.args.uses.now (mark_at c.args.marks.now view) c.in_default.not-Open stopped) edge
    c.enter.new.marks c.enter.new.stack.items
    (c.in_ok-enter.ensures.marks ∙ ap (λ (way : List Frame). set c.args.marks.now view (Open (length way))) c.in_ok-push.ensures.items)
    (c.in_ok-enter.ensures.stack ∙ ap (λ (way : List Frame). way ++ begun view ∷ []) c.in_ok-push.ensures.items)
