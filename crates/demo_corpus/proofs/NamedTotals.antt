-- Totals by their names, one more at a time.
use Rattle.std.proofs.Common.{◌≡◌, ℕ, ◌+◌, ◌<◌, ◌≤◌, Bor, List, [], ◌∷◌, length, map, fold, drop, get_or, refl, sym, ap, ap₂, ◌∙◌, Ordering, Less, Equal, Greater}
use Rattle.std.proofs.lemmas.List.{drop_more, drop_all}
use Rattle.std.specs.BTreeMap.{insert_entry}
use Rattle.std.specs.Cmp.Lexicographic.{slice_cmp}
use Rattle.std.specs.List.{zip}
use Rattle.std.specs.Ordering.{nat_cmp, match_ordering}
use Rattle.row_values.specs.Outputs.{OutputNames}
use Rattle.demo_corpus.specs.NamedTotals.{named_total}
use Rattle.demo_corpus.specs.Summaries.{put_total}

abbrev Entry : Type 0
Entry = Bor (List ℕ) × ℕ

abbrev pub text_cmp : Bor (List ℕ) → Bor (List ℕ) → Ordering
text_cmp a b = slice_cmp nat_cmp a.now b.now

chosen : (o : Ordering) (a b c : List Entry) → map named_total (match_ordering o a b c) ≡ match_ordering o (map named_total a) (map named_total b) (map named_total c)
chosen Less a b c = refl
chosen Equal a b c = refl
chosen Greater a b c = refl

-- a total that is put into the map is put among the totals
pub named_total-insert_entry : (es : List Entry) (name : Bor (List ℕ)) (total : ℕ) → map named_total (insert_entry text_cmp es name total) ≡ put_total (map named_total es) (name.now, total)
named_total-insert_entry [] name total = refl
named_total-insert_entry (e ∷ es) name total = chosen (text_cmp name e.0) _ _ _ ∙ rw (named_total-insert_entry es name total)

abbrev pub names : List OutputNames → List (List ℕ)
names outputs = map (λ output. output.name) outputs

-- the totals by name, from those so far and those that are left
abbrev pub with_rest : List (List ℕ × ℕ) → List OutputNames → List ℕ → ℕ → List (List ℕ × ℕ)
with_rest so_far outputs totals i = fold put_total so_far (zip (names (drop i outputs)) (drop i totals))

pub with_one_more : (outputs : List OutputNames) (totals : List ℕ) (i : ℕ) (output : OutputNames) (so_far : List (List ℕ × ℕ)) → i < length outputs → i < length totals
    → with_rest (put_total so_far ((get_or outputs i output).name, get_or totals i 0)) outputs totals (i + 1) ≡ with_rest so_far outputs totals i
with_one_more outputs totals i output so_far within_outputs within_totals =
    sym (ap₂ (λ rest numbers. fold put_total so_far (zip (names rest) numbers)) (drop_more outputs i output within_outputs) (drop_more totals i 0 within_totals))

pub with_none : (outputs : List OutputNames) (totals : List ℕ) (i : ℕ) (so_far : List (List ℕ × ℕ)) → length outputs ≤ i → with_rest so_far outputs totals i ≡ so_far
with_none outputs totals i so_far past = ap (λ rest. fold put_total so_far (zip (names rest) (drop i totals))) (drop_all i outputs past)
