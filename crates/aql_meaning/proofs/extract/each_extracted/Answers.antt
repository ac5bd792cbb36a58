use Rattle.std.proofs.Common.{◌∙◌, ap, map}
use Rattle.row_values.specs.Rows.{RowList}
use Rattle.scalar_ops.specs.Tables.{Lists}
use Rattle.scalar_ops.specs.Views.{term_of}
use Rattle.aql_typed.specs.Meaning.{row_of}
use Rattle.row_operators.specs.Searches.{extraction_for}
use Rattle.aql_meaning.proofs.Extracting.{extracted-next}
use Rattle.aql_meaning.proofs.extract.each_extracted.Goals as goal

pub loop-row-preserved : goal.loop-row-preserved
loop-row-preserved c =
    let items = map term_of c.args.items.now in
    let same = c.in_ok-lead.ensures.same ∙ c.loop-row.invariant.same in
    record {
      rows = extracted-next c.args.tools.now c.args.doc.now items (extraction_for c.args.search) c.args.rows.now c.loop-row.row-index c.row-item.result c.in_ok-lead.lead c.values_for.new.tools
          c.loop-row.out.rows c.push_found.new.into.rows same c.loop-row-test.true c.row-item.is
          (c.in_ok-lead.ensures.row ∙ ap (λ (lists : Lists). row_of lists c.args.doc.now items c.row-item.result) c.loop-row.invariant.same)
          c.loop-row.invariant.rows (ap (λ (list : RowList). list.rows) c.in_ok-push_found.ensures.rows);
      width = ap (λ (list : RowList). list.width) c.in_ok-push_found.ensures.rows ∙ c.loop-row.invariant.width;
      lies = c.in_ok-push_found.ensures.lies c.loop-row.invariant.lies;
      same = c.in_ok-push_found.ensures.same ∙ same;
    }
