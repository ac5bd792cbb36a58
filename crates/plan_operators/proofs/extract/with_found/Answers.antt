use Rattle.std.proofs.Common.{◌∙◌, ◌++◌, ap}
use Rattle.row_values.specs.Rows.{RowList}
use Rattle.scalar_ops.specs.Tables.{Lists}
use Rattle.algebra.specs.Operators.{followed}
use Rattle.row_operators.specs.Passes.{given-next}
use Rattle.row_operators.specs.Searches.{extraction_for}
use Rattle.plan_operators.proofs.extract.with_found.Goals as goal

pub loop-row-preserved : goal.loop-row-preserved
loop-row-preserved c =
    let e = extraction_for c.args.search in
    let doc = c.args.doc.now in
    record {
      rows = given-next (followed c.args.tools.now doc e) c.as_slice-row-items.result.now c.loop-row.row-index c.row-item.result c.loop-row.out.rows c.push_found.new.into.rows
          c.loop-row-test.true c.row-item.is c.loop-row.invariant.rows
          (ap (λ (list : RowList). list.rows) c.in_ok-push_found.ensures.rows
          ∙ ap (λ (lists : Lists). c.loop-row.out.rows ++ followed lists doc e c.row-item.result) c.loop-row.invariant.same);
      width = ap (λ (list : RowList). list.width) c.in_ok-push_found.ensures.rows ∙ c.loop-row.invariant.width;
      lies = c.in_ok-push_found.ensures.lies c.loop-row.invariant.lies;
      same = c.in_ok-push_found.ensures.same ∙ c.loop-row.invariant.same;
    }
