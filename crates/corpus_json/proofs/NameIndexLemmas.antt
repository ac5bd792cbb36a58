-- The names in order, one more at a time.
use Rattle.std.proofs.Common.{◌≡◌, ℕ, suc, ◌+◌, ◌<◌, ◌≤◌, Bor, List, [], ◌∷◌, length, map, fold, drop, get_or, refl, sym, ap, ◌∙◌, add-one, drop-cons, Ordering, Less, Equal, Greater}
use Rattle.std.proofs.lemmas.List.{drop-map, drop_all}
use Rattle.std.specs.List.{enumerate_from}
use Rattle.std.specs.Ordering.{nat_cmp, match_ordering}
use Rattle.std.specs.Cmp.Lexicographic.{slice_cmp}
use Rattle.std.specs.BTreeMap.{insert_entry}
use Rattle.corpus_json.specs.NameIndexes.{NameIndex, entry_index, put_index}

abbrev Entry : Type 0
Entry = Bor (List ℕ) × ℕ

abbrev pub text_cmp : Bor (List ℕ) → Bor (List ℕ) → Ordering
text_cmp a b = slice_cmp nat_cmp a.now b.now

chosen : (o : Ordering) (a b c : List Entry) → map entry_index (match_ordering o a b c) ≡ match_ordering o (map entry_index a) (map entry_index b) (map entry_index c)
chosen Less a b c = refl
chosen Equal a b c = refl
chosen Greater a b c = refl

-- a name that is put into the map is put into its indexes
pub entry_index-insert_entry : (es : List Entry) (name : Bor (List ℕ)) (index : ℕ) → map entry_index (insert_entry text_cmp es name index) ≡ put_index (map entry_index es) (index, name.now)
entry_index-insert_entry [] name index = refl
entry_index-insert_entry (e ∷ es) name index = chosen (text_cmp name e.0) _ _ _ ∙ rw (entry_index-insert_entry es name index)

-- the indexes of all names, from those of the names so far and the names that are left
abbrev pub with_rest : List NameIndex → ℕ → List (List ℕ) → List NameIndex
with_rest indexes i rest = fold put_index indexes (enumerate_from i rest)

abbrev pub texts : List (Bor (List ℕ)) → List (List ℕ)
texts names = map (λ name. name.now) names

pub with_one_more : (names : List (Bor (List ℕ))) (i : ℕ) (default : Bor (List ℕ)) (indexes : List NameIndex) → i < length names
    → with_rest (put_index indexes (i, (get_or names i default).now)) (i + 1) (drop (i + 1) (texts names)) ≡ with_rest indexes i (drop i (texts names))
with_one_more names i default indexes within =
    let first : drop i (texts names) ≡ (get_or names i default).now ∷ drop (i + 1) (texts names) =
    drop-map (λ (name : Bor (List ℕ)). name.now) i names ∙ ap texts (drop-cons names i default within)
    ∙ ap (λ rest. (get_or names i default).now ∷ rest) (sym (drop-map (λ (name : Bor (List ℕ)). name.now) (suc i) names) ∙ ap (λ k. drop k (texts names)) (sym (add-one i))) in
    sym (ap (with_rest indexes i) first)

pub with_none : (names : List (Bor (List ℕ))) (i : ℕ) (indexes : List NameIndex) → length names ≤ i → with_rest indexes i (drop i (texts names)) ≡ indexes
with_none names i indexes past = ap (with_rest indexes i) (drop-map (λ (name : Bor (List ℕ)). name.now) i names ∙ ap texts (drop_all i names past))
