-- How many tokens entries have, and so the runs that agree with one.
use Rattle.std.proofs.Common.{◌≡◌, ◌∙◌, ◌≤◌, ◌<◌, ◌+◌, ℕ, Bool, true, false, List, [], ◌∷◌, ◌++◌, length, get_or, slice_get, take, Some, inl, inr, sym, ap, subst, arith}
use Rattle.std.proofs.lemmas.Bool.{cases_lt}
use Rattle.std.proofs.lemmas.List.{length-map, get_or-map, get_or_append_left, get_or_push, length_push, take_more}
use Rattle.std.proofs.lemmas.List.Elements.{All-contains, All-weaker, All-push}
use Rattle.std.proofs.lemmas.Option.{get_or_from_slice_get, slice_get_within}
use Rattle.dict_match.specs.declared.dict_use.DictUse.{DictUse}
use Rattle.dict_match.specs.Dictionaries.{folded, entry_texts, Agree, AgreesWith}
use Rattle.dict_match.specs.DictMatches.{does_agree}
use Rattle.dict_match.specs.Laws.{does_agree-Decides}
use Rattle.dict_match.specs.Passes.{HaveAtMost, AreMost, entries_of}

-- ---- a run that agrees with an entry is as long as that

agree-long : (exact : Bool) (xs ys : List (List ℕ)) → Agree exact xs ys → length xs ≡ length ys
agree-long true xs ys h = ap length h
agree-long false xs ys h = sym (length-map xs folded) ∙ ap length h ∙ length-map ys folded

pub agree-within : (dict : DictUse) (texts : List (List ℕ)) (most : ℕ) → HaveAtMost most dict.entries → does_agree dict texts ≡ true → length texts ≤ most
agree-within dict texts most h agrees =
    let a : AgreesWith dict texts = (does_agree-Decides dict texts).0 agrees in
    let within = All-contains (λ (entry : List ℕ). length (entry_texts entry) ≤ most) dict.entries a.entry h a.listed in
    omega (arith, agree-long dict.exact texts (entry_texts a.entry) a.agree, within)

-- so is one that agrees with an entry of the dictionary with that number
pub agree_most : (dicts : List DictUse) (most : List ℕ) (i : ℕ) (dict : DictUse) (texts : List (List ℕ)) → AreMost (entries_of dicts) most →
    slice_get dicts i ≡ Some dict → does_agree dict texts ≡ true → length texts ≤ get_or most i 0
agree_most dicts most i dict texts are is agrees =
    let lt = slice_get_within dicts i dict is in
    let here : get_or (entries_of dicts) i [] ≡ dict.entries =
    get_or-map (λ (d : DictUse). d.entries) dicts i dict [] lt ∙ ap (λ (d : DictUse). d.entries) (get_or_from_slice_get dicts i dict dict is) in
    agree-within dict texts (get_or most i 0)
    (subst (HaveAtMost (get_or most i 0)) here (are.each i (omega (arith, lt, length-map dicts (λ (d : DictUse). d.entries))))) agrees

-- ---- as entries and dictionaries come

pub at_most_more : (a b : ℕ) (entries : List (List ℕ)) → a ≤ b → HaveAtMost a entries → HaveAtMost b entries
at_most_more a b entries le h =
    All-weaker (λ (entry : List ℕ). length (entry_texts entry) ≤ a) (λ (entry : List ℕ). length (entry_texts entry) ≤ b) (λ entry within. omega (arith, within, le)) entries h

pub AreMost-push : (lists : List (List (List ℕ))) (most : List ℕ) (entries : List (List ℕ)) (tokens : ℕ) → AreMost lists most → HaveAtMost tokens entries →
    AreMost (lists ++ entries ∷ []) (most ++ tokens ∷ [])
AreMost-push lists most entries tokens are h = record {
  long = length_push most tokens ∙ ap (λ n. n + 1) are.long ∙ sym (length_push lists entries);
  each = λ i lt. elim (cases_lt i (length lists)) [
    | inl low ↦
        let at = get_or_append_left most (tokens ∷ []) 0 i (omega (arith, low, are.long)) in
        let there = get_or_append_left lists (entries ∷ []) [] i low in
        subst (λ n. HaveAtMost n (get_or (lists ++ entries ∷ []) i [])) (sym at) (subst (HaveAtMost (get_or most i 0)) (sym there) (are.each i low))
    | inr high ↦
        let last : length lists ≡ i = omega (arith, high, lt, length_push lists entries) in
        let at = get_or_push most tokens 0 i (are.long ∙ last) in
        let there = get_or_push lists entries [] i last in
        subst (λ n. HaveAtMost n (get_or (lists ++ entries ∷ []) i [])) (sym at) (subst (HaveAtMost tokens) (sym there) h)
  ];
}

pub more_entries : (entries : List (List ℕ)) (i a n b : ℕ) (item : List ℕ) → i < length entries → item ≡ get_or entries i item → HaveAtMost a (take i entries) →
    n ≡ length (entry_texts item) → a ≤ b → n ≤ b → HaveAtMost b (take (i + 1) entries)
more_entries entries i a n b item lt is h number left right =
    let next : take (i + 1) entries ≡ take i entries ++ item ∷ [] =
    take_more entries i item lt ∙ ap (λ (x : List ℕ). take i entries ++ x ∷ []) (sym is) in
    subst (HaveAtMost b) (sym next)
    (All-push (λ (entry : List ℕ). length (entry_texts entry) ≤ b) (take i entries) item (at_most_more a b (take i entries) left h) (omega (arith, number, right)))
