use Rattle.std.proofs.Common.{◌∙◌, ap}
use Rattle.row_values.specs.Rows.{RowList}
use Rattle.row_operators.proofs.Moving.{left_wide, moved_more}
use Rattle.row_operators.proofs.sides.append_rows.Goals as goal

pub loop-row-preserved : goal.loop-row-preserved
loop-row-preserved c =
    let rest = c.loop-row.row-iterator.rest.items in
    let after = c.next.new.self.rest.items in
    let next = c.in-Some.ensures.steps.0 in
    let width = ap (λ (list : RowList). list.width) c.in_ok-push.ensures.ok in
    record {
      rows = moved_more rest after c.in-Some.row next c.loop-row.into.rows c.push.new.self.rows _ (ap (λ (list : RowList). list.rows) c.in_ok-push.ensures.ok) c.loop-row.invariant.rows;
      width = width ∙ c.loop-row.invariant.width;
      wide = left_wide rest after c.in-Some.row next c.loop-row.into.width c.push.new.self.width width c.loop-row.invariant.wide;
    }
