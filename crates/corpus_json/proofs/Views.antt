-- The views as serde_json has them, with the members as they stand in a line.
use Rattle.std.proofs.Common.{◌≡◌, ℕ, suc, ◌<◌, List, [], ◌∷◌, ◌++◌, codes, Option, None, Some, length, map, get_or, All, false, refl, sym, ap, subst, ◌∙◌, arith, append_assoc}
use Rattle.std.proofs.Math.ListN.{get_or-map}
use Rattle.std.proofs.lemmas.List.{length-map}
use Rattle.std.proofs.lemmas.Simd.{map-map}
use Rattle.std.proofs.lemmas.List as lists
use Rattle.std.proofs.lemmas.List.Elements.{All-map, All-head, All-tail, All-weaker}
use Rattle.std.proofs.lemmas.List.Sorted.{All-permutation}
use Rattle.std.proofs.lemmas.Slice.Zip.{get_or-zip, length-zip}
use Rattle.std.specs.List.{zip}
use Rattle.serde_json.specs.Data.{Data, object}
use Rattle.serde_json.specs.Data as serde
use Rattle.span_token.specs.Documents.{Doc}
use Rattle.row_values.specs.Datums.{Datum, null}
use Rattle.row_values.specs.Outputs.{OutputNames}
use Rattle.row_values.specs.Rows.{sorted}
use Rattle.row_values.specs.SortedRows.{SameBag-sorted}
use Rattle.corpus_json.specs.Outputs.{value_data, object_of, array_of, row_data, rows_data, views_data, label_pair, line_data}
use Rattle.json.specs.Print.{escape_byte, quoted}
use Rattle.serde_json.specs.Written.{compact_text}
use Rattle.corpus_json.specs.declared.write.member.Column.{Column}
use Rattle.corpus_json.specs.NameIndexes.{NameIndex, column_index, name_indexes}
use Rattle.corpus_json.specs.Writing.{listed, placed, row_listed, array_text, section_pair, views_listed, views_text, label_text}
use Rattle.corpus_json.specs.Sections.{Section, section_of, output_at, section_at, output_names, sections_of, HasRows}
use Rattle.corpus_json.specs.declared.write.member.Member.{Member}
use Rattle.corpus_json.proofs.Objects.{with_value, object_of-zip, indexes_within}
use Rattle.corpus_json.proofs.Sections.{All-unmap}

-- two functions that agree where P holds
map_where : {X Y : Type 0} (P : X → Type 0) (f g : X → Y) → ((x : X) → P x → f x ≡ g x) → (xs : List X) → All P xs → map f xs ≡ map g xs
map_where P f g same [] all = refl
map_where P f g same (x ∷ xs) all = λ i. same x (All-head P x xs all) i ∷ map_where P f g same xs (All-tail P x xs all) i

value_placed : (document : Doc) (row : List Datum) (index : NameIndex) → with_value (map (value_data document) row) index ≡ placed document row index
value_placed document row index = λ i. (index.0, get_or-map (value_data document) row index.1 null i)

-- a row with a value for each column
row_placed : (document : Doc) (columns : List (List ℕ)) (row : List Datum) → length row ≡ length columns → row_data document columns row ≡ row_listed document (name_indexes columns) row
unfolding row_data
row_placed document columns row fits =
    object_of-zip columns (map (value_data document) row) (sym fits ∙ sym (length-map row (value_data document)))
    ∙ λ i. object (listed (map (λ index. value_placed document row index i) (name_indexes columns)))

-- an output's rows
pub rows_placed : (document : Doc) (output : OutputNames) (rows : List (List Datum)) → All (λ row. length row ≡ length output.columns) rows
    → rows_data document output rows ≡ array_of (map (row_listed document (name_indexes output.columns)) (sorted rows))
unfolding rows_data
rows_placed document output rows fit =
    ap array_of (map_where (λ row. length row ≡ length output.columns) (row_data document output.columns) (row_listed document (name_indexes output.columns)) (row_placed document output.columns) (sorted rows)
    (All-permutation (λ row. length row ≡ length output.columns) rows (sorted rows) (SameBag-sorted rows) fit))

-- their text, from the columns that stand by their names
pub list_text : (document : Doc) (output : OutputNames) (columns : List Column) (rows : List (List Datum)) → map column_index columns ≡ name_indexes output.columns → All (λ row. length row ≡ length output.columns) rows
    → compact_text (rows_data document output rows) ≡ 91 ∷ array_text false (map (row_listed document (map column_index columns)) (sorted rows))
unfolding array_text
list_text document output columns rows are fit =
    ap compact_text (rows_placed document output rows fit) ∙ ap (λ (indexes : List NameIndex). 91 ∷ array_text false (map (row_listed document indexes) (sorted rows))) (sym are)

-- ---- the outputs by their names

abbrev pair_of : Doc → OutputNames × List (List Datum) → List ℕ × Data
pair_of document (output, list) = (output.name, rows_data document output list)

abbrev list_of : Doc → OutputNames × List (List Datum) → Data
list_of document (output, list) = rows_data document output list

pairs_of : (document : Doc) (outputs : List OutputNames) (rows : List (List (List Datum))) → length rows ≡ length outputs
    → map (pair_of document) (zip outputs rows) ≡ zip (output_names outputs) (map (list_of document) (zip outputs rows))
pairs_of document [] rows same = refl
pairs_of document (output ∷ outputs) [] same = absurd (omega arith)
pairs_of document (output ∷ outputs) (list ∷ rows) same = ap (λ pairs. (output.name, rows_data document output list) ∷ pairs) (pairs_of document outputs rows (omega arith))

lists_length : (document : Doc) (outputs : List OutputNames) (rows : List (List (List Datum))) → length rows ≡ length outputs → length (output_names outputs) ≡ length (map (list_of document) (zip outputs rows))
lists_length document [] rows same = refl
lists_length document (output ∷ outputs) [] same = absurd (omega arith)
lists_length document (output ∷ outputs) (list ∷ rows) same = ap suc (lists_length document outputs rows (omega arith))

section_placed : (document : Doc) (outputs : List OutputNames) (rows : List (List (List Datum))) → length rows ≡ length outputs → (index : NameIndex) → index.1 < length outputs
    → with_value (map (list_of document) (zip outputs rows)) index ≡ section_pair document rows (section_at outputs index)
section_placed document outputs rows same index within =
    let none : OutputNames × List (List Datum) = (record { name = []; columns = [] }, []) in
    let there : index.1 < length (zip outputs rows) = rw (length-zip outputs rows) (omega arith) in
    let found : get_or (map (list_of document) (zip outputs rows)) index.1 serde.null ≡ rows_data document (output_at outputs index.1) (get_or rows index.1 []) =
    lists.get_or-map (list_of document) (zip outputs rows) index.1 none serde.null there ∙ ap (list_of document) (get_or-zip outputs rows index.1 none within (omega arith)) in
    λ i. (index.0, found i)

-- the views as their members stand
pub views_placed : (document : Doc) (outputs : List OutputNames) (rows : List (List (List Datum))) → length rows ≡ length outputs → views_data document outputs rows ≡ object (views_listed document rows (sections_of outputs))
unfolding views_data sections_of
views_placed document outputs rows same =
    let names = output_names outputs in
    let lists = map (list_of document) (zip outputs rows) in
    let all : All (λ (index : NameIndex). index.1 < length outputs) (name_indexes names) =
    All-unmap (λ index. index < length outputs) (λ (index : NameIndex). index.1) (name_indexes names) (subst (λ n. All (λ index. index < n) (map (λ (p : NameIndex). p.1) (name_indexes names))) (length-map outputs (λ output. output.name)) (indexes_within names)) in
    ap object_of (pairs_of document outputs rows same) ∙ object_of-zip names lists (lists_length document outputs rows same)
    ∙ ap (λ pairs. object (listed pairs))
    (map_where (λ (index : NameIndex). index.1 < length outputs) (with_value lists) (λ index. section_pair document rows (section_at outputs index)) (section_placed document outputs rows same) (name_indexes names) all
    ∙ sym (map-map (section_pair document rows) (section_at outputs) (name_indexes names)))

-- ---- each output has its rows

abbrev HasRowsAt : List ℕ → Section → Type 0
HasRowsAt widths section = (section.index < length widths) × (get_or widths section.index 0 ≡ length section.output.columns)

-- as many lists of rows as outputs
pub lists_same : (outputs : List OutputNames) (widths : List ℕ) → widths ≡ map (λ output. length output.columns) outputs → length widths ≡ length outputs
lists_same outputs widths are = ap length are ∙ length-map outputs (λ output. length output.columns)

rows_at : (outputs : List OutputNames) (widths : List ℕ) → widths ≡ map (λ output. length output.columns) outputs → (index : NameIndex) → index.1 < length outputs → HasRowsAt widths (section_at outputs index)
rows_at outputs widths are index within = (
  subst (λ n. index.1 < n) (sym (lists_same outputs widths are)) within,
  ap (λ ns. get_or ns index.1 0) are
      ∙ get_or-map (λ (output : OutputNames). length output.columns) outputs index.1 (record { name = []; columns = [] }),
)

pub has_rows : (outputs : List OutputNames) (widths : List ℕ) (members : List Member) → widths ≡ map (λ output. length output.columns) outputs → map section_of members ≡ sections_of outputs → All (HasRows widths) members
unfolding sections_of
has_rows outputs widths members same are =
    let names = output_names outputs in
    let all : All (λ (index : NameIndex). index.1 < length outputs) (name_indexes names) =
    All-unmap (λ index. index < length outputs) (λ (index : NameIndex). index.1) (name_indexes names) (subst (λ n. All (λ index. index < n) (map (λ (p : NameIndex). p.1) (name_indexes names))) (length-map outputs (λ output. output.name)) (indexes_within names)) in
    let each = All-unmap (HasRowsAt widths) section_of members (subst (All (HasRowsAt widths)) (sym are)
    (All-map (HasRowsAt widths) (section_at outputs) (name_indexes names) (All-weaker (λ (index : NameIndex). index.1 < length outputs) (λ index. HasRowsAt widths (section_at outputs index)) (rows_at outputs widths same) (name_indexes names) all))) in
    λ k d within. let one = each k d within in record { index = one.0; width = one.1 }

-- ---- the line

with_label : (label : Option (List ℕ)) (views : Data) → compact_text (object_of (label_pair label ++ (codes "views", views) ∷ [])) ≡ label_text label ++ (codes "\"views\":" ++ (compact_text views ++ 125 ∷ []))
unfolding escape_byte
with_label None views = refl
with_label (Some label) views = ap (λ text. codes "{\"label\":" ++ text) (sym (append_assoc (quoted label) (44 ∷ []) (codes "\"views\":" ++ (compact_text views ++ 125 ∷ []))))

-- the text of the line's object
pub line_text : (document : Doc) (outputs : List OutputNames) (rows : List (List (List Datum))) → length rows ≡ length outputs
    → compact_text (line_data document outputs rows) ≡ label_text document.label ++ (codes "\"views\":{" ++ (views_text false document rows (sections_of outputs) ++ 125 ∷ []))
unfolding line_data views_text
line_text document outputs rows same =
    with_label document.label (views_data document outputs rows)
    ∙ ap (λ (views : Data). label_text document.label ++ (codes "\"views\":" ++ (compact_text views ++ 125 ∷ []))) (views_placed document outputs rows same)

-- what four pieces one after another add
pub four_pieces : (old one two three four a b c d : List ℕ) → one ≡ old ++ a → two ≡ one ++ b → three ≡ two ++ c → four ≡ three ++ d → four ≡ old ++ (a ++ (b ++ (c ++ d)))
four_pieces old one two three four a b c d p q r s = rw (s, r, q, p) (simp append_assoc)
