-- Tokens in stretches: what stretches have that are put together.
use Rattle.std.proofs.Common.{◌≡◌, ◌∙◌, ◌+◌, ◌-◌, ◌<◌, ◌≤◌, ◌++◌, ◌⊎◌, max, ℕ, true, List, [], ◌∷◌, length, get_or, take, Some, None, sym, ap, subst, arith, inl, inr}
use Rattle.std.specs.List.{All}
use Rattle.std.specs.List.Sorted.{IsPermutation}
use Rattle.std.proofs.lemmas.Bool.{cases_lt}
use Rattle.std.proofs.lemmas.List.{get_or_default, get_or_append_left, get_or_past, length-append, take_more}
use Rattle.std.proofs.lemmas.List.Elements.{All-push}
use Rattle.std.proofs.lemmas.List.Sorted.{All-permutation, IsNonDecreasingBy-push, IsNonDecreasingBy-short, IsPermutation-sym}
use Rattle.std.proofs.lemmas.Option.{none-some, same_Some}
use Rattle.std.proofs.Math.Seq.{get_or-append_seam}
use Rattle.span_token.specs.Documents.{Doc, characters}
use Rattle.span_token.specs.Extents.{Extent}
use Rattle.span_token.specs.Tokens.{tokens_of}
use Rattle.row_values.specs.Datums.{Datum}
use Rattle.row_values.specs.Rows.{span_in}
use Rattle.algebra.specs.declared.node.JoinKind.{JoinKind}
use Rattle.algebra.specs.Operators.{does_join}
use Rattle.plan_operators.specs.declared.stretches.Stretch.{Stretch}
use Rattle.plan_operators.specs.Neighbourhoods.{AreAround, FirstsRise, IsIn, IsInSome, IsInRun, stretch_at}

-- ---- one more stretch

in-front : (all : List Stretch) (last : Stretch) (i n : ℕ) → n < length all → IsIn (stretch_at all n).first (stretch_at all n).past i → IsInSome (all ++ last ∷ []) i
in-front all last i n lt inside = (n, subst (λ (s : Stretch). IsIn s.first s.past i) (sym (get_or_append_left all (last ∷ []) (record { first = 0; past = 0 }) n lt)) inside)

-- what isn't there has no token
pub in-there : (all : List Stretch) (i n : ℕ) → IsIn (stretch_at all n).first (stretch_at all n).past i → n < length all
in-there all i n inside = elim (cases_lt n (length all)) [
  | inl lt ↦ lt
  | inr late ↦
      let none = get_or_past all n (record { first = 0; past = 0 }) late in
      let to = inside.to in
      absurd (omega (arith, to, ap (λ (s : Stretch). s.past) none))
]

pub in-more : (all : List Stretch) (last : Stretch) (i : ℕ) → IsInSome all i → IsInSome (all ++ last ∷ []) i
in-more all last i some = in-front all last i some.0 (in-there all i some.0 some.1) some.1

pub in-last : (all : List Stretch) (last : Stretch) (i : ℕ) → IsIn last.first last.past i → IsInSome (all ++ last ∷ []) i
in-last all last i inside = (length all, subst (λ (s : Stretch). IsIn s.first s.past i) (sym (get_or-append_seam all last [] (record { first = 0; past = 0 }))) inside)

-- a last stretch that has more
pub in-wider : (all : List Stretch) (last wide : Stretch) → wide.first ≤ last.first → last.past ≤ wide.past → (i : ℕ) → IsInSome (all ++ last ∷ []) i → IsInSome (all ++ wide ∷ []) i
in-wider all last wide low high i some = elim (cases_lt some.0 (length all)) [
  | inl lt ↦ in-front all wide i some.0 lt (subst (λ (s : Stretch). IsIn s.first s.past i) (get_or_append_left all (last ∷ []) (record { first = 0; past = 0 }) some.0 lt) some.1)
  | inr late ↦
      let inside = in-there (all ++ last ∷ []) i some.0 some.1 in
      let n : some.0 ≡ length all = omega (arith, late, inside, length-append all (last ∷ [])) in
      let same = ap (λ k. get_or (all ++ last ∷ []) k (record { first = 0; past = 0 })) n ∙ get_or-append_seam all last [] (record { first = 0; past = 0 }) in
      let here = subst (λ (s : Stretch). IsIn s.first s.past i) same some.1 in
      let a = here.«from» in
      let b = here.to in
      in-last all wide i (record { «from» = omega (arith, a, low); to = omega (arith, b, high) })
]

-- of one more, one has it
pub in-either : (all : List Stretch) (last : Stretch) (i : ℕ) → IsInSome (all ++ last ∷ []) i → IsInSome all i ⊎ IsIn last.first last.past i
in-either all last i some = elim (cases_lt some.0 (length all)) [
  | inl lt ↦ inl (some.0, subst (λ (s : Stretch). IsIn s.first s.past i) (get_or_append_left all (last ∷ []) (record { first = 0; past = 0 }) some.0 lt) some.1)
  | inr late ↦
      let inside = in-there (all ++ last ∷ []) i some.0 some.1 in
      let n : some.0 ≡ length all = omega (arith, late, inside, length-append all (last ∷ [])) in
      let same = ap (λ k. get_or (all ++ last ∷ []) k (record { first = 0; past = 0 })) n ∙ get_or-append_seam all last [] (record { first = 0; past = 0 }) in
      inr (subst (λ (s : Stretch). IsIn s.first s.past i) same some.1)
]

-- ---- stretches that are merged

-- the stretches so far, of which the last may grow, have the tokens of those that were seen
pub record AreMerged (seen all : List Stretch) (last : Stretch) : Type 0 where
  pub rise : FirstsRise all
  pub next : (d : Stretch) → 0 < length all → (get_or all (length all - 1) d).first ≤ last.first
  pub same : (i : ℕ) → IsInSome seen i → IsInSome (all ++ last ∷ []) i

pub merged-none : AreMerged [] [] (record { first = 0; past = 0 })
merged-none = record {
  rise = IsNonDecreasingBy-short (λ (s : Stretch). s.first) [] (omega arith);
  next = λ d some. absurd (omega (arith, some));
  same = λ i some. let to = some.1.to in absurd (omega (arith, to));
}

-- one more is added to the last
pub merged-grown : (seen all : List Stretch) (last stretch : Stretch) → AreMerged seen all last → last.first ≤ stretch.first
    → AreMerged (seen ++ stretch ∷ []) all (record { first = last.first; past = max last.past stretch.past })
merged-grown seen all last stretch are low = record { rise = are.rise; next = are.next; same = same }
  where
    same : (i : ℕ) → IsInSome (seen ++ stretch ∷ []) i → IsInSome (all ++ record { first = last.first; past = max last.past stretch.past } ∷ []) i
    same i some = elim (in-either seen stretch i some) [
      | inl before ↦ in-wider all last (record { first = last.first; past = max last.past stretch.past }) (omega arith) (omega arith) i (are.same i before)
      | inr here ↦ let a = here.«from» in let b = here.to in in-last all (record { first = last.first; past = max last.past stretch.past }) i (record { «from» = omega (arith, a, low); to = omega (arith, b) })
    ]

pub merged-rise : (seen all : List Stretch) (last : Stretch) → AreMerged seen all last → FirstsRise (all ++ last ∷ [])
merged-rise seen all last are = IsNonDecreasingBy-push (λ (s : Stretch). s.first) all last are.rise are.next

-- or stands behind it
pub merged-pushed : (seen all : List Stretch) (last stretch : Stretch) → AreMerged seen all last → last.first ≤ stretch.first
    → AreMerged (seen ++ stretch ∷ []) (all ++ last ∷ []) stretch
merged-pushed seen all last stretch are low = record { rise = merged-rise seen all last are; next = next; same = same }
  where
    next : (d : Stretch) → 0 < length (all ++ last ∷ []) → (get_or (all ++ last ∷ []) (length (all ++ last ∷ []) - 1) d).first ≤ stretch.first
    next d some =
        let n : length (all ++ last ∷ []) - 1 ≡ length all = omega (arith, length-append all (last ∷ [])) in
        let is = ap (λ k. get_or (all ++ last ∷ []) k d) n ∙ get_or-append_seam all last [] d in
        omega (arith, low, ap (λ (s : Stretch). s.first) is)

    same : (i : ℕ) → IsInSome (seen ++ stretch ∷ []) i → IsInSome ((all ++ last ∷ []) ++ stretch ∷ []) i
    same i some = elim (in-either seen stretch i some) [
      | inl before ↦ in-more (all ++ last ∷ []) stretch i (are.same i before)
      | inr here ↦ in-last (all ++ last ∷ []) stretch i here
    ]

-- of equal lists
pub merged-same : (seen seen' all all' : List Stretch) (last last' : Stretch) → seen' ≡ seen → all' ≡ all → last' ≡ last → AreMerged seen all last → AreMerged seen' all' last'
merged-same seen seen' all all' last last' s a l are =
    subst (λ (xs : List Stretch). AreMerged xs all' last') (sym s) (subst (λ (xs : List Stretch). AreMerged seen xs last') (sym a) (subst (AreMerged seen all) (sym l) are))

-- ---- rows that have stretches around them

module _ (doc : Doc) (kind : JoinKind) (lc reach : ℕ) where
  -- more stretches are around a row too
  pub around-more : (old new : List Stretch) → ((i : ℕ) → IsInSome old i → IsInSome new i) → (rows : List (List Datum)) → All (AreAround doc kind lc reach old) rows → All (AreAround doc kind lc reach new) rows
  around-more old new more rows all = λ k d lt. λ outer e first past at run short joins. more first (all k d lt outer e first past at run short joins)

  -- one more row without a span
  pub around-spanless : (all : List Stretch) (rows : List (List Datum)) (row : List Datum) (i : ℕ) → i < length rows → row ≡ get_or rows i row → span_in lc row ≡ None
      → All (AreAround doc kind lc reach all) (take i rows) → All (AreAround doc kind lc reach all) (take (i + 1) rows)
  around-spanless all rows row i lt at none before =
      subst (All (AreAround doc kind lc reach all)) (sym (take_more rows i row lt))
      (All-push (AreAround doc kind lc reach all) (take i rows) (get_or rows i row) before
      (subst (AreAround doc kind lc reach all) at (λ outer e first past is. absurd (none-some outer (sym none ∙ is)))))

  -- one more row with one
  pub around-next : (old new : List Stretch) (stretch : Stretch) (rows : List (List Datum)) (row : List Datum) (i : ℕ) (outer : Extent) → i < length rows → row ≡ get_or rows i row
      → span_in lc row ≡ Some outer → new ≡ old ++ stretch ∷ []
      → ((e : Extent) (first past : ℕ) → IsInRun (tokens_of (characters doc)) first past e → past ≤ first + reach → does_join doc kind outer e ≡ true → IsIn stretch.first stretch.past first)
      → All (AreAround doc kind lc reach old) (take i rows) → All (AreAround doc kind lc reach new) (take (i + 1) rows)
  around-next old new stretch rows row i outer lt at is pushed begins before =
      subst (All (AreAround doc kind lc reach new)) (sym (take_more rows i row lt))
      (All-push (AreAround doc kind lc reach new) (take i rows) (get_or rows i row)
      (around-more old new (λ i some. subst (λ ss. IsInSome ss i) (sym pushed) (in-more old stretch i some)) (take i rows) before)
      (subst (AreAround doc kind lc reach new) at here))
    where
      here : AreAround doc kind lc reach new row
      here span e first past its run short joins =
          let same : span ≡ outer = same_Some _ _ (sym its ∙ is) in
          subst (λ ss. IsInSome ss first) (sym pushed)
          (in-last old stretch first (begins e first past run short (subst (λ (x : Extent). does_join doc kind x e ≡ true) same joins)))

-- stretches in another order have the same tokens
pub in-sorted : (old new : List Stretch) → IsPermutation old new → (i : ℕ) → IsInSome old i → IsInSome new i
in-sorted old new moved i some =
    All-permutation (λ s. (i : ℕ) → IsIn s.first s.past i → IsInSome new i) new old (IsPermutation-sym old new moved)
    (λ k d lt i inside. (k, subst (λ (s : Stretch). IsIn s.first s.past i) (get_or_default new k d (record { first = 0; past = 0 }) lt) inside))
    some.0 (record { first = 0; past = 0 }) (in-there old i some.0 some.1) i some.1
