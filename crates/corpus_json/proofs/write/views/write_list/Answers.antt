use Rattle.std.proofs.Common.{◌≡◌, ◌++◌, List, All, false, length, map, sym, ap, subst, ◌∙◌, append_assoc}
use Rattle.row_values.specs.Datums.{Datum}
use Rattle.row_values.specs.Rows.{sorted}
use Rattle.corpus_json.specs.NameIndexes.{column_index, name_indexes}
use Rattle.corpus_json.specs.Sections.{HasColumns}
use Rattle.corpus_json.specs.Writing.{array_text, row_listed}
use Rattle.corpus_json.proofs.RowSpans.{columns_within}
use Rattle.corpus_json.proofs.Views.{list_text}
use Rattle.corpus_json.proofs.write.views.write_list.Goals as goal

pub write_in_order-requires-clause-columns : goal.write_in_order-requires-clause-columns
write_in_order-requires-clause-columns c =
    subst (HasColumns c.as_slice.result.now) (sym c.requires.width)
    (columns_within c.as_slice.result.now c.args.member.now.output.now.columns (ap (map column_index) c.as_slice.ensures.value ∙ c.args.member.now.in_order))

pub returns : goal.returns
returns c =
    let columns = c.as_slice.result.now in
    let output = c.args.member.now.output.now in
    let rows = c.args.rows.now.rows in
    let are : map column_index columns ≡ name_indexes output.columns = ap (map column_index) c.as_slice.ensures.value ∙ c.args.member.now.in_order in
    let fit : All (λ (row : List Datum). length row ≡ length output.columns) rows = subst (λ n. All (λ (row : List Datum). length row ≡ n) rows) c.requires.width c.width-width.ensures.each_row in
    let text = array_text false (map (row_listed c.args.document.now (map column_index columns)) (sorted rows)) in
    c.in_ok-write_in_order.ensures ∙ ap (λ items. items ++ text) c.in_ok-push.ensures.items ∙ append_assoc c.args.out.now.items _ text
    ∙ ap (λ text. c.args.out.now.items ++ text) (sym (list_text c.args.document.now output columns rows are fit))
