use Rattle.std.proofs.Common.{All, sym, subst}
use Rattle.row_values.specs.Datums.{IsOfDocument}
use Rattle.corpus_json.proofs.RowSpans.{values_lie_in}
use Rattle.corpus_json.proofs.write.row.write_rows.Goals as goal

pub write_row-requires-clause-in_document : goal.write_row-requires-clause-in_document
write_row-requires-clause-in_document c =
    values_lie_in c.args.document.now c.row-item.result c.values.result.now c.values.ensures
    (subst (All (IsOfDocument c.args.document.now)) (sym c.row-item.is) (c.requires.in_document c.rows.row-index c.row-item.result c.rows-test.true))
