-- Lines and sizes of what pools answer, and lists that grow.
use Rattle.std.proofs.Common.{◌≡◌, ◌++◌, ℕ, List, [], ◌∷◌, map, length, refl, sym, ap, ap₂, ◌∙◌, Option, Some, None, append_assoc, append-nil, subst, All, Bor}
use Rattle.std.proofs.lemmas.Simd.{map-map}
use Rattle.aql_base.specs.BagLaws.{SameBag-refl}
use Rattle.aql_base.specs.CountLaws.{length-SameBag}
use Rattle.span_token.specs.Documents.{Doc}
use Rattle.row_values.specs.Datums.{Datum}
use Rattle.row_values.specs.Outputs.{OutputNames}
use Rattle.row_values.specs.Rows.{RowList, RowsLieIn}
use Rattle.corpus_json.specs.Outputs.{output_line, rows_of, width_of}
use Rattle.algebra.specs.Plans.{Parts}
use Rattle.run_pool.specs.Answers.{IsAnswer, IsSound}
use Rattle.run_pool.specs.Entries.{Entry, AreHandedInPart, with_entries, fresh, entries_in}
use Rattle.run_pool.specs.LineLaws.{lines_alike}
use Rattle.run_pool.specs.Lines.{Meaning, AreSameBags, names_in, rows_by, line_from, line_by}

-- lists are the same bags as themselves
pub same_bags-refl : (xs : List (List (List Datum))) → AreSameBags xs xs
same_bags-refl [] = tt
same_bags-refl (x ∷ xs) = (SameBag-refl x, same_bags-refl xs)

-- what the outputs are worth is sound
pub worth_is_sound : IsSound rows_by
worth_is_sound plan doc = same_bags-refl (rows_by plan doc)

-- the line of an answer is the line of what is meant
pub answer_line : (meant : Meaning) (plan : Parts) (doc : Doc) (lists : List RowList) → IsAnswer meant plan doc lists
    → output_line doc (names_in plan) (map (λ (list : RowList). list.rows) lists) ≡ line_from meant plan doc
answer_line meant plan doc lists is = lines_alike doc (names_in plan) (map (λ (list : RowList). list.rows) lists) (meant plan doc) is.bags

-- and for a sound pool the line by what the outputs are worth
pub sound_line : (meant : Meaning) → IsSound meant → (plan : Parts) (doc : Doc) → line_from meant plan doc ≡ line_by plan doc
sound_line meant sound plan doc = lines_alike doc (names_in plan) (meant plan doc) (rows_by plan doc) (sound plan doc)

-- lists that are the same bags have the same sizes
pub sizes_alike : (xs ys : List (List (List Datum))) → AreSameBags xs ys → map (λ (list : List (List Datum)). length list) xs ≡ map (λ (list : List (List Datum)). length list) ys
sizes_alike [] [] same = refl
sizes_alike [] (y ∷ ys) same = absurd same
sizes_alike (x ∷ xs) [] same = absurd same
sizes_alike (x ∷ xs) (y ∷ ys) same = ap₂ (λ (n : ℕ) (ns : List ℕ). n ∷ ns) (length-SameBag x y same.0) (sizes_alike xs ys same.1)

-- entries behind entries
pub with-with : (told : Option (List Entry)) (xs ys : List Entry) → with_entries (with_entries told xs) ys ≡ with_entries told (xs ++ ys)
with-with None xs ys = refl
with-with (Some list) xs ys = ap (λ (l : List Entry). Some l) (append_assoc list xs ys)

-- no entry more
pub with-none : (told : Option (List Entry)) → with_entries told [] ≡ told
with-none None = refl
with-none (Some list) = ap (λ (l : List Entry). Some l) (append-nil list)

-- what is gathered of a part
pub with-part : (told : Option (List Entry)) (xs : List Entry) → with_entries told (entries_in (with_entries (fresh told) xs)) ≡ with_entries told xs
with-part None xs = refl
with-part (Some list) xs = refl

-- and of a part behind what was gathered before
pub with-gathered : (told : Option (List Entry)) (xs ys : List Entry) → with_entries (with_entries told xs) (entries_in (with_entries (fresh told) ys)) ≡ with_entries told (xs ++ ys)
with-gathered None xs ys = refl
with-gathered (Some list) xs ys = ap (λ (l : List Entry). Some l) (append_assoc list xs ys)

-- nothing was handed
pub part_none : (before now : Option (List Entry)) (entries : List Entry) → now ≡ before → AreHandedInPart before now entries
part_none before now entries same = record { handed = []; others = entries; split = refl; told = same ∙ sym (with-none before) }

-- all was handed
pub part_all : (before now : Option (List Entry)) (entries : List Entry) → now ≡ with_entries before entries → AreHandedInPart before now entries
part_all before now entries all = record { handed = entries; others = []; split = sym (append-nil entries); told = all }

-- some was handed, and then a part of what is next
pub part_then : (before between now : Option (List Entry)) (first next rest entries : List Entry) → between ≡ with_entries before first → AreHandedInPart between now next
    → entries ≡ first ++ (next ++ rest) → AreHandedInPart before now entries
part_then before between now first next rest entries so_far part is = record {
  handed = first ++ part.handed;
  others = part.others ++ rest;
  split = is ∙ ap (λ (l : List Entry). first ++ l) (ap (λ (l : List Entry). l ++ rest) part.split ∙ append_assoc part.handed part.others rest)
      ∙ sym (append_assoc first part.handed (part.others ++ rest));
  told = part.told ∙ ap (λ (t : Option (List Entry)). with_entries t part.handed) so_far ∙ with-with before first part.handed;
}

-- an answer in lists that are borrowed
module _ (meant : Meaning) (plan : Parts) (doc : Doc) (lent : List (Bor RowList)) (is : IsAnswer meant plan doc (map (λ list. list.now) lent)) where
  rows_are : map rows_of lent ≡ map (λ (list : RowList). list.rows) (map (λ list. list.now) lent)
  rows_are = sym (map-map (λ (list : RowList). list.rows) (λ list. list.now) lent)

  pub lent_wide : (names : List OutputNames) → names ≡ names_in plan → map width_of lent ≡ map (λ (output : OutputNames). length output.columns) names
  lent_wide names same =
      sym (map-map (λ (list : RowList). list.width) (λ list. list.now) lent) ∙ is.wide ∙ ap (map (λ (output : OutputNames). length output.columns)) (sym same)

  pub lent_lies : All (RowsLieIn doc) (map rows_of lent)
  lent_lies = subst (All (RowsLieIn doc)) (sym rows_are) is.lies

  pub lent_line : (names : List OutputNames) → names ≡ names_in plan → output_line doc names (map rows_of lent) ≡ line_from meant plan doc
  lent_line names same =
      ap (λ (ns : List OutputNames). output_line doc ns (map rows_of lent)) same ∙ ap (output_line doc (names_in plan)) rows_are
      ∙ answer_line meant plan doc (map (λ list. list.now) lent) is

  pub lent_sizes : map (λ list. length (rows_of list)) lent ≡ map (λ (list : List (List Datum)). length list) (meant plan doc)
  lent_sizes =
      sym (map-map (λ (list : List (List Datum)). length list) rows_of lent) ∙ ap (map (λ (list : List (List Datum)). length list)) rows_are
      ∙ sizes_alike (map (λ (list : RowList). list.rows) (map (λ list. list.now) lent)) (meant plan doc) is.bags
