-- What the writing of a row asks of its values, from what is known of the row.
use Rattle.std.proofs.Common.{◌≡◌, ℕ, ◌<◌, Bor, List, length, map, get_or, All, sym, subst}
use Rattle.std.proofs.Math.ListN.{get_or-map}
use Rattle.std.proofs.lemmas.List.{length-map}
use Rattle.std.proofs.lemmas.List.Sorted.{All-permutation}
use Rattle.span_token.specs.Documents.{Doc}
use Rattle.row_values.specs.Datums.{Datum, IsOfDocument, datum_of}
use Rattle.row_values.specs.Rows.{sorted}
use Rattle.row_values.specs.SortedRows.{SameBag-sorted}
use Rattle.row_values.specs.declared.value.Value.{Value}
use Rattle.corpus_json.specs.NameIndexes.{NameIndex, column_index, name_indexes}
use Rattle.corpus_json.specs.Sections.{HasColumns}
use Rattle.corpus_json.specs.declared.write.member.Column.{Column}
use Rattle.corpus_json.proofs.Objects.{indexes_within}
use Rattle.corpus_json.proofs.Sections.{All-unmap}

mapped_lie_in : (document : Doc) (values : List Value) → All (IsOfDocument document) (map datum_of values) → All (λ value. IsOfDocument document (datum_of value)) values
mapped_lie_in document values all = λ k d within.
    subst (IsOfDocument document) (get_or-map datum_of values k d) (all k (datum_of d) (subst (λ n. k < n) (sym (length-map values datum_of)) within))

-- the spans of a row's values lie in the document where those of the row do
pub values_lie_in : (document : Doc) (row : List Datum) (values : List Value) → map datum_of values ≡ row → All (IsOfDocument document) row → All (λ value. IsOfDocument document (datum_of value)) values
values_lie_in document row values is all = mapped_lie_in document values (subst (All (IsOfDocument document)) (sym is) all)

-- what the sorted rows have from the rows
pub sorted_all : (P : List Datum → Type 0) (rows : List (List Datum)) (references : List (Bor (List Datum))) → map (λ row. row.now) references ≡ sorted rows → All P rows → All (λ row. P row.now) references
sorted_all P rows references are all =
    All-unmap P (λ (row : Bor (List Datum)). row.now) references (subst (All P) (sym are) (All-permutation P rows (sorted rows) (SameBag-sorted rows) all))

-- columns within the width are within each row
pub columns_in_rows : (columns : List Column) (width : ℕ) (rows : List (List Datum)) → HasColumns columns width → All (λ row. length row ≡ width) rows → All (λ row. HasColumns columns (length row)) rows
columns_in_rows columns width rows have fit = λ k d within j e there. subst (λ n. (get_or columns j e).index < n) (sym (fit k d within)) (have j e there)

-- the columns of an output that stand by their names
pub columns_within : (columns : List Column) (names : List (List ℕ)) → map column_index columns ≡ name_indexes names → HasColumns columns (length names)
columns_within columns names are =
    All-unmap (λ (p : NameIndex). p.1 < length names) column_index columns (All-unmap (λ index. index < length names) (λ (p : NameIndex). p.1) (map column_index columns)
    (subst (λ (indexes : List NameIndex). All (λ index. index < length names) (map (λ (p : NameIndex). p.1) indexes)) (sym are) (indexes_within names)))
