use Rattle.std.proofs.Common.{◌≡◌, ◌++◌, ◌∙◌, false, sym, subst, map, List}
use Rattle.std.specs.Prelude.{OnOk}
use Rattle.row_values.specs.Datums.{Datum}
use Rattle.corpus_json.specs.NameIndexes.{column_index}
use Rattle.corpus_json.specs.Writing.{array_text, row_listed}
use Rattle.corpus_json.proofs.write.views.write_in_order.Goals as goal

pub returns-then-is_in_order : goal.returns-then-is_in_order
returns-then-is_in_order c =
    subst (λ (rows : List (List Datum)). OnOk c.write_rows.result (c.write_rows.new.out.items ≡ c.args.out.now.items ++ array_text false (map (row_listed c.args.document.now (map column_index c.args.columns.now)) rows)))
    (c.as_slice.ensures ∙ sym (c.is_in_order.ensures.sorted.0 c.if-is_in_order.true)) c.write_rows.ensures
