-- Rows with the number of a dictionary.
use Rattle.std.proofs.Common.{◌≡◌, ◌∙◌, ◌<◌, ◌+◌, ◌-◌, ◌++◌, ◌∷◌, [], ℕ, zero, suc, pos, List, Option, Some, None, map, length, get_or, take, drop, slice_get, refl, sym, ap, ap₂, append_assoc, arith, flat_map}
use Rattle.std.specs.List.{All, filter, range_with_len}
use Rattle.std.proofs.lemmas.List.{append-nil, map-append, take_more, take_all, take-map, drop-map, length-map, length-drop}
use Rattle.std.proofs.lemmas.List.Elements.{All-map, All-append, All-cons, All-nil, All-weaker, All-filter, filter-append}
use Rattle.std.proofs.lemmas.Option.{slice_get-get_or}
use Rattle.span_token.specs.Documents.{Doc, LiesIn}
use Rattle.span_token.specs.Extents.{Extent}
use Rattle.span_token.specs.Relations.{ContainsExtent}
use Rattle.row_values.specs.declared.value.Value.{Value}
use Rattle.row_values.specs.Datums.{Datum, int, span, datum_of, IsOfDocument}
use Rattle.row_values.specs.Rows.{RowList, RowsLieIn, span_in}
use Rattle.dict_match.specs.DictMatches.{dict_matches}
use Rattle.dict_match.specs.Rows.{extents_for}
use Rattle.scalar_ops.specs.Extractions.{of_some, of_dict}
use Rattle.scalar_ops.specs.Tables.{Lists}
use Rattle.aql_typed.specs.Trees.{dict}
use Rattle.aql_typed.specs.Meaning.{Rows, group_value, found_in}
use Rattle.algebra.specs.Operators.{marked_at, marked_in, part_of, unmarked, is_marked}
use Rattle.plan_operators.specs.DictNumbers.{with_number, numbered_at, numbered_rows}

one_number_more : {Y : Type 0} (f : ℕ → List Y) (a n j : ℕ) → a + n ≡ j → flat_map f (range_with_len a (suc n)) ≡ flat_map f (range_with_len a n) ++ f j
one_number_more f a zero j is = let same : a ≡ j = omega (arith, is) in append-nil (f a) ∙ ap f same
one_number_more {Y} f a (suc n) j is =
    ap (λ (rest : List Y). f a ++ rest) (one_number_more f (a + 1) n j (omega (arith, is))) ∙ sym (append_assoc (f a) (flat_map f (range_with_len (a + 1) n)) (f j))

-- the rows of one number more
pub numbered-next : (row : List Datum) (found : List (ℕ × Extent)) (dicts : List ℕ) (n d : ℕ) (start before after : RowList) → n < length dicts → d ≡ get_or dicts n d
    → before ≡ record { width = start.width; rows = start.rows ++ flat_map (numbered_at row found dicts) (range_with_len 0 n) }
    → after ≡ record { width = before.width; rows = before.rows ++ map (with_number row n) (extents_for d found) }
    → after ≡ record { width = start.width; rows = start.rows ++ flat_map (numbered_at row found dicts) (range_with_len 0 (n + 1)) }
numbered-next row found dicts n d start before after below at so_far put =
    let f = numbered_at row found dicts in
    let there : slice_get dicts n ≡ Some d = slice_get-get_or dicts n d below ∙ ap (λ (k : ℕ). Some k) (sym at) in
    let here : map (with_number row n) (extents_for d found) ≡ f n = ap (of_some (λ e. map (with_number row n) (extents_for e found))) (sym there) in
    let on : n + 1 ≡ suc n = omega arith in
    put ∙ (ap (λ (list : RowList). record { width = list.width; rows = list.rows ++ map (with_number row n) (extents_for d found) }) so_far
    ∙ ap (λ (rows : Rows). record { width = start.width; rows = rows })
    (append_assoc start.rows (flat_map f (range_with_len 0 n)) (map (with_number row n) (extents_for d found))
    ∙ ap (λ (rows : Rows). start.rows ++ rows)
    (ap (λ (rows : Rows). flat_map f (range_with_len 0 n) ++ rows) here ∙ (sym (one_number_more f 0 n n (omega arith)) ∙ ap (λ (k : ℕ). flat_map f (range_with_len 0 k)) (sym on)))))

module _ (lists : Lists) (doc : Doc) (column : ℕ) (dicts : List ℕ) (row : List Datum) where
  -- what is found where the column has a span
  module _ (source : Extent) (found : List (ℕ × Extent)) (in_column : span_in column row ≡ Some source)
      (matches : (d : ℕ) → extents_for d found ≡ of_dict lists d (λ the. dict_matches the doc source)) where
    one_by_one : (number : ℕ) (es : List Extent) → map (λ f. row ++ int (pos number) ∷ map group_value f) (map (λ e. Some e ∷ []) es) ≡ map (with_number row number) es
    one_by_one number [] = refl
    one_by_one number (e ∷ es) = ap (λ (rest : Rows). with_number row number e ∷ rest) (one_by_one number es)

    of_option : (number : ℕ) (o : Option ℕ) → of_some (λ d. map (with_number row number) (extents_for d found)) o
        ≡ of_some (λ d. map (λ f. row ++ int (pos number) ∷ map group_value f) (found_in lists doc (dict column d) row)) o
    of_option number None = refl
    of_option number (Some d) =
        let es = of_dict lists d (λ the. dict_matches the doc source) in
        ap (map (with_number row number)) (matches d) ∙ (sym (one_by_one number es)
        ∙ ap (λ (o : Option Extent). map (λ f. row ++ int (pos number) ∷ map group_value f) (of_some (λ s. map (λ e. Some e ∷ []) (of_dict lists d (λ the. dict_matches the doc s))) o)) (sym in_column))

    each_number : (numbers : List ℕ) → flat_map (numbered_at row found dicts) numbers ≡ flat_map (marked_at lists doc column dicts row) numbers
    each_number [] = refl
    each_number (p ∷ numbers) = ap₂ (λ (xs ys : Rows). xs ++ ys) (of_option p (slice_get dicts p)) (each_number numbers)

    -- the matches of all dictionaries, number by number
    pub numbered-marked : numbered_rows row found dicts ≡ marked_in lists doc column dicts row
    numbered-marked = each_number (range_with_len 0 (length dicts))

  -- nothing is found where it has none
  module _ (in_column : span_in column row ≡ None) where
    none_of : (number : ℕ) (o : Option ℕ) → ◌≡◌ {A = Rows} [] (of_some (λ d. map (λ f. row ++ int (pos number) ∷ map group_value f) (found_in lists doc (dict column d) row)) o)
    none_of number None = refl
    none_of number (Some d) =
        ap (λ (o : Option Extent). map (λ f. row ++ int (pos number) ∷ map group_value f) (of_some (λ s. map (λ e. Some e ∷ []) (of_dict lists d (λ the. dict_matches the doc s))) o)) (sym in_column)

    no_number : (numbers : List ℕ) → ◌≡◌ {A = Rows} [] (flat_map (marked_at lists doc column dicts row) numbers)
    no_number [] = refl
    no_number (p ∷ numbers) = ap₂ (λ (xs ys : Rows). xs ++ ys) (none_of p (slice_get dicts p)) (no_number numbers)

    pub none-marked : ◌≡◌ {A = Rows} [] (marked_in lists doc column dicts row)
    none-marked = no_number (range_with_len 0 (length dicts))

-- where they lie
module _ (doc : Doc) (row : List Datum) (source : Extent) (lies : All (IsOfDocument doc) row) (here : LiesIn source doc) where
  one_lies : (number : ℕ) (e : Extent) → ContainsExtent source e → All (IsOfDocument doc) (with_number row number e)
  one_lies number e inside =
      let ends = inside.ends in
      let there : IsOfDocument doc (span e) = omega (arith, ends, here) in
      All-append (IsOfDocument doc) row (int (pos number) ∷ span e ∷ []) lies
      (All-cons (IsOfDocument doc) (int (pos number)) (span e ∷ []) tt (All-cons (IsOfDocument doc) (span e) [] there (All-nil (IsOfDocument doc))))

  module _ (found : List (ℕ × Extent)) (inside : All (λ (m : ℕ × Extent). ContainsExtent source m.1) found) where
    those_lie : (number d : ℕ) → RowsLieIn doc (map (with_number row number) (extents_for d found))
    those_lie number d =
        let within : All (ContainsExtent source) (extents_for d found) =
        All-map (ContainsExtent source) (λ (m : ℕ × Extent). m.1) _ (All-filter _ (λ (m : ℕ × Extent). ContainsExtent source m.1) found inside) in
        All-map (All (IsOfDocument doc)) (with_number row number) (extents_for d found)
        (All-weaker (ContainsExtent source) (λ e. All (IsOfDocument doc) (with_number row number e)) (λ e contains. one_lies number e contains) (extents_for d found) within)

    at_lies : (number : ℕ) (o : Option ℕ) → RowsLieIn doc (of_some (λ d. map (with_number row number) (extents_for d found)) o)
    at_lies number None = All-nil (All (IsOfDocument doc))
    at_lies number (Some d) = those_lie number d

    all_lie : (dicts numbers : List ℕ) → RowsLieIn doc (flat_map (numbered_at row found dicts) numbers)
    all_lie dicts [] = All-nil (All (IsOfDocument doc))
    all_lie dicts (p ∷ numbers) =
        All-append (All (IsOfDocument doc)) (numbered_at row found dicts p) (flat_map (numbered_at row found dicts) numbers) (at_lies p (slice_get dicts p)) (all_lie dicts numbers)

    pub numbered-lies : (dicts : List ℕ) → RowsLieIn doc (numbered_rows row found dicts)
    numbered-lies dicts = all_lie dicts (range_with_len 0 (length dicts))

-- the rows of a number, one row more
pub part-next : (number i : ℕ) (rows : Rows) (row : List Datum) (width : ℕ) (before after : RowList) → i < length rows → row ≡ get_or rows i row
    → before ≡ record { width = width; rows = part_of number (take i rows) } → after ≡ record { width = before.width; rows = before.rows ++ part_of number (row ∷ []) }
    → after ≡ record { width = width; rows = part_of number (take (i + 1) rows) }
part-next number i rows row width before after below at so_far put =
    put ∙ (ap (λ (list : RowList). record { width = list.width; rows = list.rows ++ part_of number (row ∷ []) }) so_far
    ∙ ap (λ (all : Rows). record { width = width; rows = all })
    (sym (ap (map unmarked) (filter-append (is_marked number) (take i rows) (row ∷ [])) ∙ map-append unmarked (filter (is_marked number) (take i rows)) (filter (is_marked number) (row ∷ [])))
    ∙ ap (part_of number) (sym (take_more rows i row below ∙ ap (λ (r : List Datum). take i rows ++ r ∷ []) (sym at)))))

-- a row without its dictionary's number, as the code puts it together
pub unmarked-is : (vs : List Value) (row out new : List Datum) → map datum_of vs ≡ row → out ≡ map datum_of (take (length vs - 2) vs)
    → new ≡ out ++ map datum_of (take (length vs - (length vs - 1)) (drop (length vs - 1) vs)) → new ≡ unmarked row
unmarked-is vs row out new seen first last =
    let n = length vs in
    let m : List Datum = map datum_of vs in
    let rest : take (n - (n - 1)) (drop (n - 1) vs) ≡ drop (n - 1) vs = take_all (n - (n - 1)) (drop (n - 1) vs) (omega (arith, length-drop (n - 1) vs)) in
    last ∙ (ap₂ (λ (xs : List Datum) (ys : List Value). xs ++ map datum_of ys) first rest
    ∙ (ap₂ (λ (xs ys : List Datum). xs ++ ys) (sym (take-map datum_of (n - 2) vs)) (sym (drop-map datum_of (n - 1) vs))
    ∙ (ap (λ (k : ℕ). take (k - 2) m ++ drop (k - 1) m) (sym (length-map vs datum_of)) ∙ ap unmarked seen)))
