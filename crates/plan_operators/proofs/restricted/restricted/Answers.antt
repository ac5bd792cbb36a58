use Rattle.std.proofs.Common.{◌≡◌, ◌∙◌, ◌<◌, ◌++◌, List, length, get_or, sym, ap, subst}
use Rattle.std.specs.List.{All, filter, flat_map}
use Rattle.std.proofs.lemmas.List.{take_all}
use Rattle.aql_base.specs.BagLaws.{SameBag-is, SameBag-trans}
use Rattle.span_joins.specs.Joins.{joined_where}
use Rattle.row_values.specs.Datums.{Datum}
use Rattle.scalar_ops.specs.Tables.{Lists}
use Rattle.algebra.specs.Operators.{does_join, followed, sought_by, with_found}
use Rattle.plan_operators.specs.declared.stretches.Stretch.{Stretch}
use Rattle.plan_operators.specs.Neighbourhoods.{AreAround, does_meet}
use Rattle.plan_operators.proofs.Joined.{joined-same, begin-in, followed-next}
use Rattle.plan_operators.proofs.restricted.restricted.Goals as goal

pub loop-row-preserved : goal.loop-row-preserved
loop-row-preserved c =
    let doc = c.args.doc.now in
    let outer = c.args.outer.now.rows in
    let rows = c.as_slice-row-items.result.now in
    let row = c.row-item.result in
    let i = c.loop-row.row-index in
    let stretches = c.as_slice-stretches.result.now in
    let keep = does_meet doc c.args.kind outer c.args.lc in
    let invariant = c.loop-row.invariant in
    let around = subst (λ (ss : List Stretch). All (AreAround doc c.args.kind c.args.lc c.reach_of-reach.result ss) outer) (sym c.as_slice-stretches.ensures.value) c.in_ok-stretches.ensures.around in
    let listed : row ≡ get_or c.args.source.now.rows i row = c.row-item.is ∙ ap (λ (rs : List (List Datum)). get_or rs i row) c.as_slice-row-items.ensures in
    let inside : i < length c.args.source.now.rows = subst (λ (rs : List (List Datum)). i < length rs) c.as_slice-row-items.ensures c.loop-row-test.true in
    let long : length row ≡ 1 = ap length listed ∙ c.width-width.ensures.each_row i row inside ∙ c.requires.source_width in
    record {
      width = c.in_ok-push_near.ensures.width ∙ invariant.width;
      lies = c.in_ok-push_near.ensures.lies invariant.lies;
      same = c.in_ok-push_near.ensures.same ∙ invariant.same;
      kept = followed-next keep (followed c.args.tools.now doc (sought_by c.args.local)) rows row i c.loop-row.found.rows c.push_near.new.into.rows c.loop-row-test.true c.row-item.is invariant.kept
          (c.in_ok-push_near.ensures.rows keep (begin-in doc c.args.kind c.args.lc c.reach_of-reach.result stretches outer row around long)
          ∙ ap (λ (t : Lists). filter keep (c.loop-row.found.rows ++ followed t doc (sought_by c.args.local) row)) invariant.same);
    }

pub returns-clause-rows : goal.returns-clause-rows
returns-clause-rows c =
    let doc = c.args.doc.now in
    let outer = c.args.outer.now.rows in
    let lists = c.args.tools.now in
    let all = with_found lists doc (sought_by c.args.local) c.args.source.now.rows in
    let keep = does_meet doc c.args.kind outer c.args.lc in
    let kept = c.loop-row.invariant.kept
    ∙ ap (λ (rs : List (List Datum)). filter keep (flat_map (followed lists doc (sought_by c.args.local)) rs)) (take_all c.loop-row.row-index c.as_slice-row-items.result.now c.loop-row-test.false ∙ c.as_slice-row-items.ensures) in
    SameBag-trans c.in_ok-out.out.rows (joined_where (does_join doc c.args.kind) outer c.args.lc c.loop-row.found.rows 1) (joined_where (does_join doc c.args.kind) outer c.args.lc all 1) c.in_ok-out.ensures.rows
    (SameBag-is _ _ (joined-same (does_join doc c.args.kind) c.args.lc 1 outer c.loop-row.found.rows all kept))
