use Rattle.std.proofs.Common.{◌≡◌, ◌++◌, false, map, drop}
use Rattle.row_values.specs.Datums.{datum_of}
use Rattle.corpus_json.specs.NameIndexes.{column_index}
use Rattle.corpus_json.specs.Writing.{row_text}
use Rattle.corpus_json.proofs.write.row.write_row.Given as goal

abbrev pub invariant-columns : goal.invariant-columns
invariant-columns l =
    l.out.items ++ row_text l.behind l.document (map column_index (drop l.column-index l.columns)) (map datum_of l.row)
    ≡ l.initial.out.items ++ row_text false l.document (map column_index l.columns) (map datum_of l.row)
