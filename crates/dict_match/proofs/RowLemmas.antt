-- The rows of each dictionary, when one more match is put.
use Rattle.std.proofs.Common.{◌≡◌, ℕ, ◌+◌, ◌<◌, ◌⊎◌, inl, inr, Bool, true, false, cond, ◌==◌, List, [], ◌∷◌, ◌++◌, map, length, take, get_or, refl, sym, ap, ap₂, subst, ◌∙◌, arith}
use Rattle.std.specs.Bool.{Decides}
use Rattle.std.specs.List.{Contains, filter}
use Rattle.std.proofs.lemmas.Bool.{cases_eq}
use Rattle.std.proofs.lemmas.Bool.Decides.{eqb_tells}
use Rattle.std.proofs.lemmas.List.{map-append, append-nil, append_assoc, take_more, length-take, get_or-take, get_or_default}
use Rattle.std.proofs.lemmas.List.Elements.{Contains-append_left, Contains-push, Contains-push_cases, All-append, All-push, filter-append}
use Rattle.span_token.specs.Extents.{Extent, extent_of}
use Rattle.dict_match.specs.declared.trie.End.{End}
use Rattle.dict_match.specs.declared.walk.DictMatch.{DictMatch}
use Rattle.dict_match.specs.Rows.{dict_and_extent, extents_for}
use Rattle.dict_match.specs.Walks.{IsSpelled, HasEndFor, HasOneEach, PutsWhere, Extends}

abbrev Pair : Type 0
Pair = ℕ × Extent

extents-one : (b : Bool) (m : Pair) → map (λ (p : Pair). p.1) (cond b (m ∷ []) []) ≡ cond b (m.1 ∷ []) []
extents-one true m = refl
extents-one false m = refl

extents-push : (i : ℕ) (ms : List Pair) (m : Pair) → extents_for i (ms ++ m ∷ []) ≡ extents_for i ms ++ cond (m.0 == i) (m.1 ∷ []) []
extents-push i ms m =
    ap (map (λ (p : Pair). p.1)) (filter-append (λ (p : Pair). p.0 == i) ms (m ∷ []))
    ∙ map-append (λ (p : Pair). p.1) (filter (λ (p : Pair). p.0 == i) ms) (filter (λ (p : Pair). p.0 == i) (m ∷ []))
    ∙ ap (λ (es : List Extent). extents_for i ms ++ es) (extents-one (m.0 == i) m)

pairs-push : (ms : List DictMatch) (m : DictMatch) → map dict_and_extent (ms ++ m ∷ []) ≡ map dict_and_extent ms ++ dict_and_extent m ∷ []
pairs-push ms m = map-append dict_and_extent ms (m ∷ [])

-- a match of that dictionary, or of another
pub extents-same : (i : ℕ) (ms new : List DictMatch) (m : DictMatch) → new ≡ ms ++ m ∷ [] → m.dict ≡ i → extents_for i (map dict_and_extent new) ≡ extents_for i (map dict_and_extent ms) ++ extent_of m.span ∷ []
extents-same i ms new m pushed same =
    ap (λ (l : List DictMatch). extents_for i (map dict_and_extent l)) pushed ∙ ap (extents_for i) (pairs-push ms m) ∙ extents-push i (map dict_and_extent ms) (dict_and_extent m)
    ∙ elim (eqb_tells m.dict i) [
      | inl hit ↦ ap (λ (b : Bool). extents_for i (map dict_and_extent ms) ++ cond b (extent_of m.span ∷ []) []) hit.0
      | inr miss ↦ absurd (miss.1 same)
    ]

pub extents-other : (i : ℕ) (ms new : List DictMatch) (m : DictMatch) → new ≡ ms ++ m ∷ [] → (m.dict ≡ i → ⊥) → extents_for i (map dict_and_extent new) ≡ extents_for i (map dict_and_extent ms)
extents-other i ms new m pushed other =
    ap (λ (l : List DictMatch). extents_for i (map dict_and_extent l)) pushed ∙ ap (extents_for i) (pairs-push ms m) ∙ extents-push i (map dict_and_extent ms) (dict_and_extent m)
    ∙ elim (eqb_tells m.dict i) [
      | inl hit ↦ absurd (other hit.1)
      | inr miss ↦ ap (λ (b : Bool). extents_for i (map dict_and_extent ms) ++ cond b (extent_of m.span ∷ []) []) miss.0 ∙ append-nil (extents_for i (map dict_and_extent ms))
    ]

-- ---- one more end

has-more : (i : ℕ) (texts : List (List ℕ)) (ends : List End) (k : ℕ) (end : End) → k < length ends → end ≡ get_or ends k end →
    HasEndFor i texts (take k ends) → HasEndFor i texts (take (k + 1) ends)
has-more i texts ends k end lt is has = record {
  end = has.end;
  listed = subst (λ (es : List End). Contains es has.end) (sym (take_more ends k end lt)) (Contains-append_left (take k ends) (get_or ends k end ∷ []) has.end has.listed);
  dict_is = has.dict_is;
  spelled = has.spelled;
}

has-here : (i : ℕ) (texts : List (List ℕ)) (ends : List End) (k : ℕ) (end : End) → k < length ends → end ≡ get_or ends k end → end.dict ≡ i → IsSpelled texts end.spelled →
    HasEndFor i texts (take (k + 1) ends)
has-here i texts ends k end lt is same spelled = record {
  end = end;
  listed = subst (λ (es : List End). Contains es end) (sym (take_more ends k end lt ∙ ap (λ (e : End). take k ends ++ e ∷ []) (sym is))) (Contains-push (take k ends) end);
  dict_is = same;
  spelled = spelled;
}

pub has-cases : (i : ℕ) (texts : List (List ℕ)) (ends : List End) (k : ℕ) (end : End) → k < length ends → end ≡ get_or ends k end → HasEndFor i texts (take (k + 1) ends) →
    HasEndFor i texts (take k ends) ⊎ ((end.dict ≡ i) × IsSpelled texts end.spelled)
has-cases i texts ends k end lt is has = elim (Contains-push_cases (take k ends) (get_or ends k end) has.end (subst (λ (es : List End). Contains es has.end) (take_more ends k end lt) has.listed)) [
  | inl a ↦ inl (record { end = has.end; listed = a; dict_is = has.dict_is; spelled = has.spelled })
  | inr a ↦
      let same : end ≡ has.end = is ∙ a in
      inr (ap (λ (e : End). e.dict) same ∙ has.dict_is, subst (λ (e : End). IsSpelled texts e.spelled) (sym same) has.spelled)
]

-- no end before this one is of its dictionary and agrees
none-before : (i : ℕ) (texts : List (List ℕ)) (ends : List End) (k : ℕ) (end : End) → HasOneEach texts ends → k < length ends → end ≡ get_or ends k end → end.dict ≡ i → IsSpelled texts end.spelled →
    HasEndFor i texts (take k ends) → ⊥
none-before i texts ends k end each lt is same spelled has =
    let at = has.listed in
    let low : at.0 < k = omega (arith, at.1, length-take k ends) in
    let there : get_or ends at.0 has.end ≡ has.end = sym (get_or-take k ends at.0 has.end low) ∙ at.2 in
    let here : get_or ends k has.end ≡ end = get_or_default ends k has.end end lt ∙ sym is in
    each at.0 k has.end low lt
    (ap (λ (e : End). e.dict) there ∙ has.dict_is ∙ sym same ∙ ap (λ (e : End). e.dict) (sym here))
    (subst (λ (e : End). IsSpelled texts e.spelled) (sym there) has.spelled)
    (subst (λ (e : End). IsSpelled texts e.spelled) (sym here) spelled)

module _ (i : ℕ) (texts : List (List ℕ)) (ends : List End) (k : ℕ) (end : End) (run : Extent) (old : List Extent) (lt : k < length ends) (is : end ≡ get_or ends k end) where
  -- the end doesn't agree
  pub puts-passed : (now : List Extent) → (IsSpelled texts end.spelled → ⊥) → PutsWhere (HasEndFor i texts (take k ends)) run old now → PutsWhere (HasEndFor i texts (take (k + 1) ends)) run old now
  puts-passed now differs (inl put) = inl (has-more i texts ends k end lt is put.0, put.1)
  puts-passed now differs (inr kept) = inr (
    λ has. elim (has-cases i texts ends k end lt is has) [ inl a ↦ kept.0 a | inr a ↦ differs a.1 ],
    kept.1,
  )

  -- it agrees
  pub puts-agreed : (ms new : List DictMatch) (m : DictMatch) → HasOneEach texts ends → IsSpelled texts end.spelled → new ≡ ms ++ m ∷ [] → m.dict ≡ end.dict → extent_of m.span ≡ run →
      PutsWhere (HasEndFor i texts (take k ends)) run old (extents_for i (map dict_and_extent ms)) → PutsWhere (HasEndFor i texts (take (k + 1) ends)) run old (extents_for i (map dict_and_extent new))
  puts-agreed ms new m each spelled pushed dict span puts = elim (cases_eq end.dict i) [
    | inl same ↦
        let more = extents-same i ms new m pushed (dict ∙ same) in
        elim puts [
          | inl put ↦ absurd (none-before i texts ends k end each lt is same spelled put.0)
          | inr kept ↦ inl (has-here i texts ends k end lt is same spelled, more ∙ ap₂ (λ (es : List Extent) (e : Extent). es ++ e ∷ []) kept.1 span)
        ]
    | inr other ↦
        let still = extents-other i ms new m pushed (λ is_i. other (sym dict ∙ is_i)) in
        elim puts [
          | inl put ↦ inl (has-more i texts ends k end lt is put.0, still ∙ put.1)
          | inr kept ↦ inr (
            λ has. elim (has-cases i texts ends k end lt is has) [ inl a ↦ kept.0 a | inr a ↦ other a.0 ],
            still ∙ kept.1,
          )
        ]
  ]

-- before the first end
pub puts-none : (i : ℕ) (texts : List (List ℕ)) (ends : List End) (run : Extent) (old : List Extent) → PutsWhere (HasEndFor i texts (take 0 ends)) run old old
puts-none i texts ends run old = inr (λ has. let low = has.listed.1 in absurd (omega (arith, low)), refl)

-- ---- lists that go on after others

-- an extent is put where a test says so
pub puts-cond : (P : Type 0) (b : Bool) (e : Extent) (old new : List Extent) → Decides b P → PutsWhere P e old new → new ≡ old ++ cond b (e ∷ []) []
puts-cond P true e old new means (inl put) = put.1
puts-cond P true e old new means (inr kept) = absurd (kept.0 (means.0 refl))
puts-cond P false e old new means (inl put) = let no : false ≡ true = means.1 put.0 in cc
puts-cond P false e old new means (inr kept) = kept.1 ∙ sym (append-nil old)

pub extends-none : (n : ℕ) (ms : List DictMatch) → Extends n ms ms
extends-none n ms = record { added = []; after = sym (append-nil ms); below = λ k d lt. absurd (omega (arith, lt)) }

pub extends-more : (n : ℕ) (one two three : List DictMatch) → Extends n one two → Extends n two three → Extends n one three
extends-more n one two three first second = record {
  added = first.added ++ second.added;
  after = second.after ∙ ap (λ (ms : List DictMatch). ms ++ second.added) first.after ∙ append_assoc one first.added second.added;
  below = All-append (λ (m : DictMatch). m.dict < n) first.added second.added first.below second.below;
}

pub extends-push : (n : ℕ) (old now new : List DictMatch) (m : DictMatch) → m.dict < n → Extends n old now → new ≡ now ++ m ∷ [] → Extends n old new
extends-push n old now new m low so_far pushed =
    extends-more n old now new so_far (record { added = m ∷ []; after = pushed; below = All-push (λ (x : DictMatch). x.dict < n) [] m (λ k d lt. absurd (omega (arith, lt))) low })

-- the extents of lists one behind the other
pub extents-append : (i : ℕ) (ms ns : List Pair) → extents_for i (ms ++ ns) ≡ extents_for i ms ++ extents_for i ns
extents-append i ms ns =
    ap (map (λ (p : Pair). p.1)) (filter-append (λ (p : Pair). p.0 == i) ms ns)
    ∙ map-append (λ (p : Pair). p.1) (filter (λ (p : Pair). p.0 == i) ms) (filter (λ (p : Pair). p.0 == i) ns)
