use Rattle.std.proofs.Common.{List, sym, ap, subst, ◌∙◌, All}
use Rattle.std.proofs.lemmas.List.Elements.{All-nil, All-push}
use Rattle.row_values.specs.Datums.{Datum, IsOfDocument}
use Rattle.row_values.specs.Rows.{RowList, ColumnLiesIn, value_in}
use Rattle.aql_bench.proofs.joining.rows_within.Goals as goal

pub loop-each-init : goal.loop-each-init
loop-each-init c = record {
  width = ap (λ (list : RowList). list.width) c.new-rows.ensures;
  within = subst (ColumnLiesIn c.args.doc.now 0) (sym (ap (λ (list : RowList). list.rows) c.new-rows.ensures)) (All-nil (λ (row : List Datum). IsOfDocument c.args.doc.now (value_in row 0)));
}

pub loop-each-preserved : goal.loop-each-preserved
loop-each-preserved c =
    let lies : List Datum → Type 0 = λ row. IsOfDocument c.args.doc.now (value_in row 0) in
    record {
      width = ap (λ (list : RowList). list.width) c.in_ok-push.ensures.ok ∙ c.loop-each.invariant.width;
      within = subst (ColumnLiesIn c.args.doc.now 0) (sym (ap (λ (list : RowList). list.rows) c.in_ok-push.ensures.ok))
          (All-push lies c.loop-each.rows.rows c.span_row.result c.loop-each.invariant.within (subst lies (sym c.span_row.ensures) c.within-cut.ensures));
    }
