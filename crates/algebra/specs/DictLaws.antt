-- The rows of one dictionary of a `Dict` node, by its number among them: those that it finds, whichever others there are.
use Rattle.std.proofs.Common.{◌≡◌, ℕ, zero, suc, ◌+◌, ◌-◌, ◌<◌, ◌≤◌, inl, inr, pos, Bool, true, false, cond, List, [], ◌∷◌, ◌++◌, map, length, take, drop, refl, sym, ap, ap₂, ◌∙◌, arith, Option, Some, None, flat_map}
use Rattle.std.specs.List.{All, filter, range_with_len}
use Rattle.std.specs.Ordering.{eq_by_cmp, is_eq}
use Rattle.std.specs.Prelude.{slice_get}
use Rattle.std.proofs.lemmas.Bool.{cases_lt}
use Rattle.std.proofs.lemmas.List.{append-nil, map-append, length-append, length-map, take_at, drop_at, get_or_at, append_assoc}
use Rattle.std.proofs.lemmas.List.Elements.{filter-append, All-head, All-tail}
use Rattle.aql_base.specs.CountLaws.{told}
use Rattle.span_token.specs.Documents.{Doc as Document}
use Rattle.span_token.specs.Extents.{Extent}
use Rattle.row_values.specs.Datums.{Datum, null, int, datum_cmp}
use Rattle.row_values.specs.RowOrder.{datum_cmp_total, datum_cmp_exact, datum_cmp_itself}
use Rattle.scalar_ops.specs.Extractions.{of_some}
use Rattle.scalar_ops.specs.Tables.{Lists}
use Rattle.aql_typed.specs.Trees.{dict}
use Rattle.aql_typed.specs.Meaning.{Rows, group_value, found_in}
use Rattle.algebra.specs.declared.node.Node.TheVariants.{Dict, DictPart}
use Rattle.algebra.specs.FoundWidths.{found-wide}
use Rattle.algebra.specs.Operators.{op, is_marked, unmarked, part_of, followed, with_found, marked_at, marked_in}

-- whether two numbers are one
abbrev are_one : ℕ → ℕ → Bool
are_one q number = eq_by_cmp datum_cmp (int (pos q)) (int (pos number))

one_itself : (number : ℕ) → are_one number number ≡ true
one_itself number = ap is_eq (datum_cmp_itself (int (pos number)))

abbrev number_in : Datum → ℕ
number_in (int (pos n)) = n
number_in value = 0

one_told : (q number : ℕ) → are_one q number ≡ true → q ≡ number
one_told q number e = ap number_in (told datum_cmp_total datum_cmp_exact (int (pos q)) (int (pos number)) e)

others : (q number : ℕ) → (q ≡ number → ⊥) → are_one q number ≡ false
others q number apart = by (are_one q number) refl
  where
    by : (b : Bool) → are_one q number ≡ b → b ≡ false
    by true e = absurd (apart (one_told q number e))
    by false e = refl

-- a row, followed by a dictionary's number and what is found
abbrev whole : List Datum → ℕ → List (Option Extent) → List Datum
whole row q found = row ++ int (pos q) ∷ map group_value found

module _ (row : List Datum) (q : ℕ) (found : List (Option Extent)) (single : length found ≡ 1) where
  length_whole : length (whole row q found) ≡ length row + 2
  length_whole = omega (arith, length-append row (int (pos q) ∷ map group_value found), length-map found group_value, single)

  mark_is : (number : ℕ) → is_marked number (whole row q found) ≡ are_one q number
  mark_is number =
      ap (λ (value : Datum). eq_by_cmp datum_cmp value (int (pos number)))
      (get_or_at row (int (pos q)) (map group_value found) null (length (whole row q found) - 2) (omega (arith, length_whole)))

  unmarked_is : unmarked (whole row q found) ≡ row ++ map group_value found
  unmarked_is =
      let first : take (length (whole row q found) - 2) (whole row q found) ≡ row = take_at row (int (pos q) ∷ map group_value found) (length (whole row q found) - 2) (omega (arith, length_whole)) in
      let last : drop (length (whole row q found) - 1) (whole row q found) ≡ map group_value found =
      ap (drop (length (whole row q found) - 1)) (sym (append_assoc row (int (pos q) ∷ []) (map group_value found)))
      ∙ drop_at (row ++ int (pos q) ∷ []) (map group_value found) (length (whole row q found) - 1) (omega (arith, length_whole, length-append row (int (pos q) ∷ []))) in
      ap₂ (λ (xs ys : List Datum). xs ++ ys) first last

part-append : (number : ℕ) (xs ys : Rows) → part_of number (xs ++ ys) ≡ part_of number xs ++ part_of number ys
part-append number xs ys = ap (map unmarked) (filter-append (is_marked number) xs ys) ∙ map-append unmarked (filter (is_marked number) xs) (filter (is_marked number) ys)

no_row : (b : Bool) → ◌≡◌ {A = Rows} [] (cond b [] [])
no_row true = refl
no_row false = refl

-- the rows of a number, where it is the one
module _ (row : List Datum) (q number : ℕ) where
  one_more : (b : Bool) (found : List (Option Extent)) → length found ≡ 1 → (rest kept : Rows) → map unmarked rest ≡ cond b kept []
      → map unmarked (cond b (whole row q found ∷ rest) rest) ≡ cond b ((row ++ map group_value found) ∷ kept) []
  one_more true found single rest kept e =
      ap (λ (r : List Datum). r ∷ map unmarked rest) (unmarked_is row q found single) ∙ ap (λ (rs : Rows). (row ++ map group_value found) ∷ rs) e
  one_more false found single rest kept e = e

  one_by_one : (founds : List (List (Option Extent))) → All (λ found. length found ≡ 1) founds
      → part_of number (map (λ found. row ++ int (pos q) ∷ map group_value found) founds) ≡ cond (are_one q number) (map (λ found. row ++ map group_value found) founds) []
  one_by_one [] all = no_row (are_one q number)
  one_by_one (found ∷ founds) all =
      let single = All-head (λ found. length found ≡ 1) found founds all in
      let later = map (λ found. row ++ int (pos q) ∷ map group_value found) founds in
      let rest = filter (is_marked number) later in
      ap (λ (b : Bool). map unmarked (cond b (whole row q found ∷ rest) rest)) (mark_is row q found single number)
      ∙ one_more (are_one q number) found single rest (map (λ found. row ++ map group_value found) founds) (one_by_one founds (All-tail (λ found. length found ≡ 1) found founds all))

module _ (lists : Lists) (doc : Document) (column : ℕ) (dicts : List ℕ) where
  -- what the dictionary with a number finds in a row
  abbrev at_number : List Datum → ℕ → Rows
  at_number row q = of_some (λ d. followed lists doc (dict column d) row) (slice_get dicts q)

  module _ (row : List Datum) (number : ℕ) where
    of_option : (q : ℕ) (o : Option ℕ) → part_of number (of_some (λ d. map (λ found. row ++ int (pos q) ∷ map group_value found) (found_in lists doc (dict column d) row)) o)
        ≡ cond (are_one q number) (of_some (λ d. followed lists doc (dict column d) row) o) []
    of_option q None = no_row (are_one q number)
    of_option q (Some d) = one_by_one row q number (found_in lists doc (dict column d) row) (found-wide lists doc (dict column d) row)

    of_number : (q : ℕ) → part_of number (marked_at lists doc column dicts row q) ≡ cond (are_one q number) (at_number row q) []
    of_number q = of_option q (slice_get dicts q)

    of_other : (q : ℕ) → (q ≡ number → ⊥) → part_of number (marked_at lists doc column dicts row q) ≡ []
    of_other q apart = of_number q ∙ ap (λ (b : Bool). cond b (at_number row q) []) (others q number apart)

    of_itself : (q : ℕ) → q ≡ number → part_of number (marked_at lists doc column dicts row q) ≡ at_number row number
    of_itself q e =
        of_number q ∙ (ap (λ (k : ℕ). cond (are_one k number) (at_number row k) []) e ∙ ap (λ (b : Bool). cond b (at_number row number) []) (one_itself number))

    none_of : (a n : ℕ) → ((q : ℕ) → a ≤ q → q < a + n → q ≡ number → ⊥) → part_of number (flat_map (marked_at lists doc column dicts row) (range_with_len a n)) ≡ []
    none_of a zero apart = refl
    none_of a (suc n) apart =
        part-append number (marked_at lists doc column dicts row a) (flat_map (marked_at lists doc column dicts row) (range_with_len (a + 1) n))
        ∙ ap₂ (λ (xs ys : Rows). xs ++ ys) (of_other a (λ e. apart a (omega arith) (omega arith) e))
        (none_of (a + 1) n (λ q least most e. apart q (omega (arith, least)) (omega (arith, most)) e))

    one_of : (a n : ℕ) → a ≤ number → number < a + n → part_of number (flat_map (marked_at lists doc column dicts row) (range_with_len a n)) ≡ at_number row number
    one_of a zero least most = absurd (omega (arith, least, most))
    one_of a (suc n) least most =
        let rest = flat_map (marked_at lists doc column dicts row) (range_with_len (a + 1) n) in
        let joined : part_of number (marked_at lists doc column dicts row a) ++ part_of number rest ≡ at_number row number = elim (cases_lt a number) [
          | inl h ↦ ap₂ (λ (xs ys : Rows). xs ++ ys) (of_other a (λ e. omega (arith, e, h))) (one_of (a + 1) n (omega (arith, h)) (omega (arith, most)))
          | inr h ↦
              let e : a ≡ number = omega (arith, least, h) in
              ap₂ (λ (xs ys : Rows). xs ++ ys) (of_itself a e) (none_of (a + 1) n (λ q low high is. omega (arith, low, is, e)))
              ∙ append-nil (at_number row number)
        ] in
        part-append number (marked_at lists doc column dicts row a) rest ∙ joined

    part_of_row : number < length dicts → part_of number (marked_in lists doc column dicts row) ≡ at_number row number
    part_of_row below = one_of 0 (length dicts) (omega arith) (omega (arith, below))

  nothing : (o : Option ℕ) → ◌≡◌ {A = Rows} [] (of_some (λ d. []) o)
  nothing None = refl
  nothing (Some d) = refl

  both : (f g : ℕ → Rows) (o : Option ℕ) → of_some f o ++ of_some g o ≡ of_some (λ d. f d ++ g d) o
  both f g None = refl
  both f g (Some d) = refl

  -- the rows of a number are what the dictionary with that number finds
  pub part-marked : (number : ℕ) (rows : Rows) → number < length dicts
      → part_of number (flat_map (marked_in lists doc column dicts) rows) ≡ of_some (λ d. with_found lists doc (dict column d) rows) (slice_get dicts number)
  part-marked number [] below = nothing (slice_get dicts number)
  part-marked number (row ∷ rows) below =
      part-append number (marked_in lists doc column dicts row) (flat_map (marked_in lists doc column dicts) rows)
      ∙ (ap₂ (λ (xs ys : Rows). xs ++ ys) (part_of_row row number below) (part-marked number rows below)
      ∙ both (λ d. followed lists doc (dict column d) row) (λ d. with_found lists doc (dict column d) rows) (slice_get dicts number))

-- so a `DictPart` gives the rows of its dictionary, whichever other dictionaries its `Dict` node has
pub dict_part : (lists : Lists) (doc : Document) (input column : ℕ) (dicts : List ℕ) (above number d : ℕ) (rows right other : Rows) → number < length dicts → slice_get dicts number ≡ Some d
    → op lists doc (DictPart above number) (op lists doc (Dict input column dicts) rows right) other ≡ with_found lists doc (dict column d) rows
dict_part lists doc input column dicts above number d rows right other below is =
    part-marked lists doc column dicts number rows below ∙ ap (of_some (λ d. with_found lists doc (dict column d) rows)) is
