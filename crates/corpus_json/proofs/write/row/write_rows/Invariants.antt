use Rattle.std.proofs.Common.{◌≡◌, ◌++◌, false, map, drop}
use Rattle.corpus_json.specs.NameIndexes.{column_index}
use Rattle.corpus_json.specs.Writing.{row_listed, array_text}
use Rattle.corpus_json.proofs.write.row.write_rows.Given as goal

abbrev pub invariant-rows : goal.invariant-rows
invariant-rows l =
    l.out.items ++ array_text l.later (map (row_listed l.document (map column_index l.columns)) (drop l.row-index l.rows))
    ≡ l.initial.out.items ++ array_text false (map (row_listed l.document (map column_index l.columns)) l.rows)
