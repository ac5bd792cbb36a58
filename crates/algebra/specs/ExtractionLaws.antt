-- An extraction is what is found, followed by a projection: the items' values and the columns that were found.
use Rattle.std.proofs.Common.{◌≡◌, ℕ, ◌+◌, List, [], ◌∷◌, ◌++◌, map, length, refl, sym, ap₂, subst, ◌∙◌, arith, Option, flat_map}
use Rattle.std.specs.List.{All, range_with_len}
use Rattle.std.proofs.lemmas.List.{append_assoc, map-append, length-append, length-map, get_or_at}
use Rattle.std.proofs.lemmas.List.Elements.{All-head, All-tail}
use Rattle.span_token.specs.Documents.{Doc}
use Rattle.span_token.specs.Extents.{Extent}
use Rattle.row_values.specs.Datums.{Datum, null}
use Rattle.scalar_ops.specs.Expressions.{Term, column, ReadsBelow}
use Rattle.scalar_ops.specs.Tables.{Lists}
use Rattle.scalar_ops.specs.Values.{value}
use Rattle.scalar_ops.specs.ValueLaws.{value-left}
use Rattle.aql_typed.specs.Trees.{Extraction, plain}
use Rattle.aql_typed.specs.Fitting.{found_width}
use Rattle.aql_typed.specs.Meaning.{Rows, group_value, row_of, found_in, extracted_from, projected}
use Rattle.algebra.specs.FoundWidths.{found-wide}
use Rattle.algebra.specs.Operators.{followed, with_found}
use Rattle.algebra.specs.WidthLaws.{AreWide}

-- so many columns from one on
abbrev pub columns_from : ℕ → ℕ → List Term
columns_from first count = map column (range_with_len first count)

module _ (lists : Lists) (doc : Doc) where
  -- the columns behind a row are what follows it
  behind : (row more : List Datum) (width : ℕ) → length row ≡ width → row_of lists doc (columns_from width (length more)) (row ++ more) ≡ more
  behind row [] width is = refl
  behind row (v ∷ more) width is =
      let same : (row ++ v ∷ []) ++ more ≡ row ++ v ∷ more = append_assoc row (v ∷ []) more in
      let rest : row_of lists doc (columns_from (width + 1) (length more)) (row ++ v ∷ more) ≡ more =
      subst (λ (whole : List Datum). row_of lists doc (columns_from (width + 1) (length more)) whole ≡ more) same
      (behind (row ++ v ∷ []) more (width + 1) (omega (arith, is, length-append row (v ∷ [])))) in
      ap₂ (λ (x : Datum) (xs : List Datum). x ∷ xs) (get_or_at row v more null width is) rest

  -- what reads the row alone
  in_front : (row more : List Datum) (items : List Term) → All (ReadsBelow (length row)) items → row_of lists doc items (row ++ more) ≡ row_of lists doc items row
  in_front row more [] reads = refl
  in_front row more (t ∷ items) reads =
      ap₂ (λ (x : Datum) (xs : List Datum). x ∷ xs) (value-left lists doc row more t (All-head (ReadsBelow (length row)) t items reads))
      (in_front row more items (All-tail (ReadsBelow (length row)) t items reads))

  module _ (items : List Term) (extraction : Extraction) (width : ℕ) (reads : All (ReadsBelow width) items) where
    abbrev shown : List Term
    shown = items ++ columns_from width (found_width extraction)

    one_found : (row : List Datum) → length row ≡ width → (found : List (Option Extent)) → length found ≡ found_width extraction
        → row_of lists doc shown (row ++ map group_value found) ≡ row_of lists doc items row ++ map group_value found
    one_found row is found wide =
        let reads_row : All (ReadsBelow (length row)) items = subst (λ (n : ℕ). All (ReadsBelow n) items) (sym is) reads in
        let count : length (map group_value found) ≡ found_width extraction = length-map found group_value ∙ wide in
        let columns : row_of lists doc (columns_from width (found_width extraction)) (row ++ map group_value found) ≡ map group_value found =
        subst (λ (n : ℕ). row_of lists doc (columns_from width n) (row ++ map group_value found) ≡ map group_value found) count
        (behind row (map group_value found) width is) in
        map-append (value lists doc (row ++ map group_value found)) items (columns_from width (found_width extraction))
        ∙ ap₂ (λ (xs ys : List Datum). xs ++ ys) (in_front row (map group_value found) items reads_row) columns

    each_found : (row : List Datum) → length row ≡ width → (founds : List (List (Option Extent))) → All (λ found. length found ≡ found_width extraction) founds
        → map (λ found. row_of lists doc items row ++ map group_value found) founds ≡ map (row_of lists doc shown) (map (λ found. row ++ map group_value found) founds)
    each_found row is [] wide = refl
    each_found row is (found ∷ founds) wide =
        ap₂ (λ (x : List Datum) (xs : Rows). x ∷ xs) (sym (one_found row is found (All-head (λ found. length found ≡ found_width extraction) found founds wide)))
        (each_found row is founds (All-tail (λ found. length found ≡ found_width extraction) found founds wide))

    -- an extraction in rows, where its items read the rows alone
    pub extracted-projected : (rows : Rows) → AreWide width rows
        → flat_map (extracted_from lists doc items extraction) rows ≡ projected lists doc (plain shown) (with_found lists doc extraction rows)
    extracted-projected [] wide = refl
    extracted-projected (row ∷ rows) wide =
        ap₂ (λ (xs ys : Rows). xs ++ ys)
        (each_found row (All-head (λ row. length row ≡ width) row rows wide) (found_in lists doc extraction row) (found-wide lists doc extraction row))
        (extracted-projected rows (All-tail (λ row. length row ≡ width) row rows wide))
        ∙ sym (map-append (row_of lists doc shown) (followed lists doc extraction row) (with_found lists doc extraction rows))
