use Rattle.std.proofs.Common.{◌∙◌, ◌++◌, ◌∷◌, [], cond, Bool, map, ap}
use Rattle.std.specs.List.{All}
use Rattle.row_values.specs.Datums.{IsOfDocument}
use Rattle.scalar_ops.specs.Tables.{Lists}
use Rattle.scalar_ops.specs.Values.{holding}
use Rattle.scalar_ops.specs.Views.{term_of}
use Rattle.row_operators.proofs.Moving.{left_wide, left_hold, first_holds, passed_more}
use Rattle.row_operators.proofs.keep.selected.Goals as goal

pub loop-row-preserved : goal.loop-row-preserved
loop-row-preserved c =
    let rest = c.loop-row.row-iterator.rest.items in
    let after = c.next.new.self.rest.items in
    let next = c.in-Some.ensures.steps.0 in
    let doc = c.args.doc.now in
    let conds = map term_of c.as_slice-conds.result.now in
    let stays = c.in_ok-stays.ensures.found ∙ ap (λ (lists : Lists). holding lists doc conds c.in-Some.row) c.loop-row.invariant.same in
    record {
      rows = passed_more rest after c.in-Some.row next (holding c.args.tools.now doc conds) c.loop-row.out.rows c.push_if.new.into.rows _
          (c.in_ok-push_if.ensures.rows ∙ ap (λ (stays : Bool). c.loop-row.out.rows ++ cond stays (c.in-Some.row ∷ []) []) stays) c.loop-row.invariant.rows;
      width = c.in_ok-push_if.ensures.width ∙ c.loop-row.invariant.width;
      wide = left_wide rest after c.in-Some.row next c.loop-row.out.width c.push_if.new.into.width c.in_ok-push_if.ensures.width c.loop-row.invariant.wide;
      lies = c.in_ok-push_if.ensures.lies doc (first_holds rest after c.in-Some.row next (All (IsOfDocument doc)) c.loop-row.invariant.left_lie) c.loop-row.invariant.lies;
      left_lie = left_hold rest after c.in-Some.row next (All (IsOfDocument doc)) c.loop-row.invariant.left_lie;
      same = c.in_ok-stays.ensures.same ∙ c.loop-row.invariant.same;
    }
