-- Where the tokens of a text stand among its bytes.
use Rattle.std.proofs.Common.{◌≡◌, ◌≤◌, ◌<◌, ◌+◌, ◌-◌, ◌++◌, ◌∷◌, [], ℕ, List, length, inl, inr, slice_get, take, map, set, cond, Bool, true, false, refl, Some, sym, ap, ap₂, subst, ◌∙◌, arith, chars, IsUtf8}
use Rattle.std.proofs.lemmas.List.{get_or_append_left, length-append, map-append, get_or-append_right}
use Rattle.std.proofs.lemmas.Bool.{cases_lt}
use Rattle.std.proofs.lemmas.Option.{get_or_from_slice_get}
use Rattle.span_token.specs.Extents.{Extent, extent_of, nth_extent}
use Rattle.span_token.specs.Tokens.{tokens_of}
use Rattle.span_token.specs.Offsets.{AreBytesOf, nth_bytes, AreOffsets, ArePairs}
use Rattle.span_token.specs.declared.offsets.TokenBytes.{TokenBytes}
use Rattle.span_token.specs.declared.span.Span.{Span}
use Rattle.span_token.proofs.PlaceLemmas.{IsBetween, between_places}
use Rattle.span_token.proofs.RoomLemmas.{take-put}
use Rattle.span_token.specs.TokenLaws.{tokens_of_are, token_not_empty, token_in_list}

-- a token that is there
pub nth-is : (tokens : List Extent) (i : ℕ) (e : Extent) → slice_get tokens i ≡ Some e → nth_extent tokens i ≡ e
nth-is tokens i e h = get_or_from_slice_get tokens i e (record { begin = 0; end = 0 }) h

-- a token begins at or before the end of a later one
pub begins-le-end : (cs : List ℕ) (first last : ℕ) → first ≤ last → last < length (tokens_of cs) →
    (nth_extent (tokens_of cs) first).begin ≤ (nth_extent (tokens_of cs) last).end
begins-le-end cs first last le lt =
    let nil : Extent = record { begin = 0; end = 0 } in
    let filled = token_not_empty cs (nth_extent (tokens_of cs) last) (token_in_list cs last nil lt) in
    elim (cases_lt first last) [
      | inl before ↦ let rises = (tokens_of_are cs).rising first last nil before lt in omega (arith, rises, filled)
      | inr after ↦ let same : first ≡ last = omega arith in
          let begins = ap (λ i. (nth_extent (tokens_of cs) i).begin) same in omega (arith, begins, filled)
    ]

-- the bytes of a run are those from the begin of its first token to the end of its last
pub run_bytes : (text : List ℕ) (start first last : ℕ) (offsets : List TokenBytes) → IsUtf8 text → first ≤ last → last < length offsets →
    start + last < length (tokens_of (chars text)) → AreOffsets text start offsets →
    IsBetween text (nth_extent (tokens_of (chars text)) (start + first)).begin (nth_extent (tokens_of (chars text)) (start + last)).end
    (nth_bytes offsets first).begin (nth_bytes offsets last).end
run_bytes text start first last offsets u le within there are =
    between_places text _ _ _ _ u (are first (omega arith)).begins (are last within).ends
    (begins-le-end (chars text) (start + first) (start + last) (omega arith) there)

-- ---- tokens and their bytes, one by one

pub ArePairs-none : (text : List ℕ) → ArePairs text [] []
ArePairs-none text = record { number = refl; each = λ k inside. absurd (omega (arith, inside)) }

pub ArePairs-append : (text : List ℕ) (ts us : List Extent) (os ps : List TokenBytes) → ArePairs text ts os → ArePairs text us ps → ArePairs text (ts ++ us) (os ++ ps)
ArePairs-append text ts us os ps h g = record {
  number = length-append os ps ∙ ap₂ (λ m n. m + n) h.number g.number ∙ sym (length-append ts us);
  each = λ k inside.
      let no_token : Extent = record { begin = 0; end = 0 } in
      let no_bytes : TokenBytes = record { begin = 0; end = 0 } in
      elim (cases_lt k (length os)) [
        | inl lt ↦ subst (λ (t : Extent). AreBytesOf text t (nth_bytes (os ++ ps) k)) (sym (get_or_append_left ts us no_token k (omega (arith, lt, h.number))))
            (subst (AreBytesOf text (nth_extent ts k)) (sym (get_or_append_left os ps no_bytes k lt)) (h.each k lt))
        | inr ge ↦ let first = get_or-append_right ts us (length os) k no_token (sym h.number) (omega arith) in
            let second = get_or-append_right os ps (length os) k no_bytes refl (omega arith) in
            subst (λ (t : Extent). AreBytesOf text t (nth_bytes (os ++ ps) k)) (sym first)
            (subst (AreBytesOf text (nth_extent us (k - length os))) (sym second) (g.each (k - length os) (omega (arith, inside, length-append os ps))))
      ];
}

pub ArePairs-one : (text : List ℕ) (token : Extent) (bytes : TokenBytes) → AreBytesOf text token bytes → ArePairs text (token ∷ []) (bytes ∷ [])
ArePairs-one text token bytes h = record {
  number = refl;
  each = λ k inside. let first : 0 ≡ k = omega (arith, inside) in
      subst (λ (i : ℕ). AreBytesOf text (nth_extent (token ∷ []) i) (nth_bytes (bytes ∷ []) i)) first h;
}

-- of all tokens of a text
pub AreOffsets-pairs : (text : List ℕ) (tokens : List Extent) (offsets : List TokenBytes) → tokens ≡ tokens_of (chars text) → ArePairs text tokens offsets → AreOffsets text 0 offsets
AreOffsets-pairs text tokens offsets all h = λ k inside.
    let zero : k ≡ 0 + k = omega arith in
    subst (λ (i : ℕ). AreBytesOf text (nth_extent (tokens_of (chars text)) i) (nth_bytes offsets k)) zero
    (subst (λ (ts : List Extent). AreBytesOf text (nth_extent ts k) (nth_bytes offsets k)) all (h.each k inside))

-- one more of both, where it counts
ArePairs-more : (text : List ℕ) (ends : Bool) (spans : List Span) (bytes : List TokenBytes) (span : Span) (one : TokenBytes) →
    AreBytesOf text (extent_of span) one → ArePairs text (map extent_of spans) bytes →
    ArePairs text (map extent_of (cond ends (spans ++ span ∷ []) spans)) (cond ends (bytes ++ one ∷ []) bytes)
ArePairs-more text true spans bytes span one h g =
    subst (λ (ts : List Extent). ArePairs text ts (bytes ++ one ∷ [])) (sym (map-append extent_of spans (span ∷ [])))
    (ArePairs-append text _ _ _ _ g (ArePairs-one text (extent_of span) one h))
ArePairs-more text false spans bytes span one h g = g

-- one more in lists with room
pub ArePairs-put : (text : List ℕ) (ends : Bool) (spans : List Span) (bytes : List TokenBytes) (count n : ℕ) (span : Span) (one : TokenBytes) →
    count < length spans → count < length bytes → n ≡ cond ends 1 0 → AreBytesOf text (extent_of span) one → ArePairs text (map extent_of (take count spans)) (take count bytes) →
    ArePairs text (map extent_of (take (count + n) (set spans count span))) (take (count + n) (set bytes count one))
ArePairs-put text ends spans bytes count n span one short long is h g =
    subst (λ (xs : List Span). ArePairs text (map extent_of xs) (take (count + n) (set bytes count one))) (sym (take-put ends spans count n span short is))
    (subst (ArePairs text (map extent_of (cond ends (take count spans ++ span ∷ []) (take count spans)))) (sym (take-put ends bytes count n one long is))
    (ArePairs-more text ends (take count spans) (take count bytes) span one h g))
