use Rattle.std.proofs.Common.{List, All, length, map, ap, ◌∙◌}
use Rattle.row_values.specs.Datums.{Datum, IsOfDocument}
use Rattle.corpus_json.specs.Sections.{HasColumns}
use Rattle.corpus_json.proofs.RowSpans.{sorted_all, columns_in_rows}
use Rattle.corpus_json.proofs.write.views.write_sorted.Goals as goal

pub write_row_references-requires-clause-columns : goal.write_row_references-requires-clause-columns
write_row_references-requires-clause-columns c =
    sorted_all (λ (row : List Datum). HasColumns c.args.columns.now (length row)) c.args.rows.now.rows c.as_slice.result.now (ap (map (λ row. row.now)) c.as_slice.ensures.value ∙ c.in_ok-sorted.ensures.rows)
    (columns_in_rows c.args.columns.now c.args.rows.now.width c.args.rows.now.rows c.requires.columns c.width-width.ensures.each_row)

pub write_row_references-requires-clause-in_document : goal.write_row_references-requires-clause-in_document
write_row_references-requires-clause-in_document c =
    sorted_all (All (IsOfDocument c.args.document.now)) c.args.rows.now.rows c.as_slice.result.now (ap (map (λ row. row.now)) c.as_slice.ensures.value ∙ c.in_ok-sorted.ensures.rows) c.requires.in_document
