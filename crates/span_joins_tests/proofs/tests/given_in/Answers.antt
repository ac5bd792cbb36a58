use Rattle.std.proofs.Common.{List, sym, ap, subst, ◌∙◌, All}
use Rattle.std.proofs.lemmas.List.Elements.{All-nil, All-push}
use Rattle.row_values.specs.Datums.{Datum, IsOfDocument}
use Rattle.row_values.specs.Rows.{RowList, ColumnLiesIn, value_in}
use Rattle.span_joins_tests.proofs.tests.given_in.Goals as goal

pub loop-begin-init : goal.loop-begin-init
loop-begin-init c = record {
  width = ap (λ (list : RowList). list.width) c.new-rows.ensures;
  within = subst (ColumnLiesIn c.args.doc.now 1) (sym (ap (λ (list : RowList). list.rows) c.new-rows.ensures)) (All-nil (λ (row : List Datum). IsOfDocument c.args.doc.now (value_in row 1)));
}

pub loop-begin-preserved : goal.loop-begin-preserved
loop-begin-preserved c =
    let lies : List Datum → Type 0 = λ row. IsOfDocument c.args.doc.now (value_in row 1) in
    record {
      width = ap (λ (list : RowList). list.width) c.in_ok-push.ensures.ok ∙ c.loop-begin.invariant.width;
      within = subst (ColumnLiesIn c.args.doc.now 1) (sym (ap (λ (list : RowList). list.rows) c.in_ok-push.ensures.ok))
          (All-push lies c.loop-begin.rows.rows c.in_ok-span_row.field-0 c.loop-begin.invariant.within (subst lies (sym c.in_ok-span_row.ensures) c.cut-span.ensures));
    }
