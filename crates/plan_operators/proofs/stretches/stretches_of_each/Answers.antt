use Rattle.std.proofs.Common.{◌∙◌, ◌+◌, Vec, Global, option_map, take, sym, ap, subst}
use Rattle.std.specs.List.{All}
use Rattle.std.proofs.lemmas.List.{take_all}
use Rattle.span_token.specs.Extents.{extent_of}
use Rattle.plan_operators.specs.declared.stretches.Stretch.{Stretch}
use Rattle.plan_operators.specs.Neighbourhoods.{AreAround}
use Rattle.plan_operators.proofs.StretchLemmas.{around-next, around-spanless}
use Rattle.plan_operators.proofs.stretches.stretches_of_each.Goals as goal
use Rattle.plan_operators.proofs.stretches.stretches_of_each.Goals.{in-Some+in_ok-push-in-Some, in-None}

pub loop-row-preserved : goal.loop-row-preserved
loop-row-preserved c =
    let doc = c.args.doc.now in
    let rows = c.as_slice-row-items.result.now in
    let row = c.row-item.result in
    let i = c.loop-row.row-index in
    elim c.match-source_in.branch [
      | in-Some+in_ok-push-in-Some w ↦
          around-next doc c.args.kind c.args.lc c.args.reach c.loop-row.all.items c.match-source_in.all.items w.begins_of.result rows row i (extent_of w.in-Some.span)
          c.loop-row-test.true c.row-item.is (sym c.source_in.ensures.source ∙ ap (option_map extent_of) w.in-Some.is)
          (ap (λ (v : Vec Stretch Global). v.items) w.all-is ∙ w.in_ok-push-in-Some.ensures.items)
          (λ e first past run short joins. w.begins_of.ensures first past (w.where_near.ensures first past e run joins) short) c.loop-row.invariant
      | in-None w ↦
          subst (λ (v : Vec Stretch Global). All (AreAround doc c.args.kind c.args.lc c.args.reach v.items) (take (i + 1) rows)) (sym w.all-is)
          (around-spanless doc c.args.kind c.args.lc c.args.reach c.loop-row.all.items rows row i c.loop-row-test.true c.row-item.is
          (sym c.source_in.ensures.source ∙ ap (option_map extent_of) w.in-None.is) c.loop-row.invariant)
    ]

pub returns : goal.returns
returns c =
    let all = take_all c.loop-row.row-index c.as_slice-row-items.result.now c.loop-row-test.false ∙ c.as_slice-row-items.ensures in
    subst (All (AreAround c.args.doc.now c.args.kind c.args.lc c.args.reach c.loop-row.all.items)) all c.loop-row.invariant
