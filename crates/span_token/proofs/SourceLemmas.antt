-- The tokens of a source by their numbers in it and in the document, and the order in which they stand.
use Rattle.std.proofs.Common.{◌≡◌, ℕ, ◌+◌, ◌-◌, ◌<◌, ◌≤◌, true, inl, inr, List, length, drop, slice_get, slice_range, Some, sym, ap, subst, ◌∙◌, arith, IsUtf8}
use Rattle.std.proofs.lemmas.Bool.{cases_lt}
use Rattle.std.proofs.lemmas.Bool.Decides.{nat_tests}
use Rattle.std.proofs.lemmas.List.{length-take, length-drop, get_or-take, get_or-drop}
use Rattle.std.proofs.lemmas.List.Elements.{filter_passes}
use Rattle.span_token.specs.Documents.{Doc, characters}
use Rattle.span_token.specs.Extents.{Extent, nth_extent}
use Rattle.span_token.specs.Offsets.{nth_bytes}
use Rattle.span_token.specs.Relations.{ContainsExtent, does_contain}
use Rattle.span_token.specs.SourceLayout.{tokens_seen, AreKept}
use Rattle.span_token.specs.SourceTokens.{SomeTokens, InTextOrder, HoldsTokens, tokens_in, run_extent}
use Rattle.span_token.specs.Tokens.{tokens_of}
use Rattle.span_token.specs.declared.source_tokens.SourceTokens.TheInside.{Inside}
use Rattle.span_token.proofs.OffsetLemmas.{nth-is, run_bytes}
use Rattle.span_token.proofs.PlaceLemmas.{IsBetween}
use Rattle.span_token.specs.TokenLaws.{token_not_empty, token_in_list, apart}

pub length-part : (tokens : List Extent) (first past : ℕ) → first ≤ past → past ≤ length tokens → length (slice_range tokens first past) ≡ past - first
length-part tokens first past le within =
    omega (arith, length-take (past - first) (drop first tokens), length-drop first tokens)

pub nth-part : (tokens : List Extent) (first past i : ℕ) → i < past - first → nth_extent (slice_range tokens first past) i ≡ nth_extent tokens (first + i)
nth-part tokens first past i lt =
    get_or-take (past - first) (drop first tokens) i _ lt ∙ get_or-drop first tokens i _

-- ---- the tokens of a source lie in it

contains-by_test : (a b : Extent) → does_contain a b ≡ true → ContainsExtent a b
contains-by_test a b h = record { begins = grind (arith, nat_tests); ends = grind (arith, nat_tests) }

pub source_holds : (d : Doc) (source : Extent) → HoldsTokens source (tokens_in d source)
source_holds d source = λ i lt.
    contains-by_test source (nth_extent (tokens_in d source) i)
    (filter_passes (does_contain source) (tokens_of (characters d)) i (record { begin = 0; end = 0 }) lt)

-- ---- what is kept, and what is seen

pub seen-length : (s : Inside) (now : SomeTokens) → tokens_seen s ≡ now → AreKept s → length now.tokens ≡ s.past - s.first
seen-length s now seen kept =
    ap (λ (t : SomeTokens). length t.tokens) (sym seen) ∙ length-part (tokens_of (characters s.doc.now)) s.first s.past kept.ordered kept.in_list

pub seen-nth : (s : Inside) (now : SomeTokens) (i : ℕ) → tokens_seen s ≡ now → AreKept s → i < length now.tokens →
    nth_extent now.tokens i ≡ nth_extent (tokens_of (characters s.doc.now)) (s.first + i)
seen-nth s now i seen kept lt =
    ap (λ (t : SomeTokens). nth_extent t.tokens i) (sym seen)
    ∙ nth-part (tokens_of (characters s.doc.now)) s.first s.past i (omega (arith, lt, seen-length s now seen kept))

pub seen-get : (s : Inside) (now : SomeTokens) (i : ℕ) (e : Extent) → tokens_seen s ≡ now → AreKept s → i < length now.tokens →
    slice_get (tokens_of (characters s.doc.now)) (s.first + i) ≡ Some e → e ≡ nth_extent now.tokens i
seen-get s now i e seen kept lt h = sym (seen-nth s now i seen kept lt ∙ nth-is (tokens_of (characters s.doc.now)) (s.first + i) e h)

-- ---- the order of tokens

InTextOrder-part : (cs : List ℕ) (first past : ℕ) → first ≤ past → past ≤ length (tokens_of cs) → InTextOrder (slice_range (tokens_of cs) first past)
InTextOrder-part cs first past le within =
    let long = length-part (tokens_of cs) first past le within in
    record {
      filled = λ i lt.
          let here = nth-part (tokens_of cs) first past i (omega (arith, lt, long)) in
          let filled = token_not_empty cs (nth_extent (tokens_of cs) (first + i)) (token_in_list cs (first + i) (record { begin = 0; end = 0 }) (omega (arith, lt, long))) in
          subst (λ (e : Extent). e.begin < e.end) (sym here) filled;
      apart = λ i j lt low.
          let one = nth-part (tokens_of cs) first past i (omega (arith, lt, low, long)) in
          let two = nth-part (tokens_of cs) first past j (omega (arith, lt, low, long)) in
          let stand = apart cs (first + i) (first + j) (record { begin = 0; end = 0 }) (omega (arith, lt)) (omega (arith, lt, low, long)) in
          omega (arith, stand, ap (λ (e : Extent). e.end) one, ap (λ (e : Extent). e.begin) two);
    }

pub seen-order : (s : Inside) (now : SomeTokens) → tokens_seen s ≡ now → AreKept s → InTextOrder now.tokens
seen-order s now seen kept =
    subst (λ (t : SomeTokens). InTextOrder t.tokens) seen (InTextOrder-part (characters s.doc.now) s.first s.past kept.ordered kept.in_list)

-- a token begins at or before the end of a later one
pub begin-le-end : (tokens : List Extent) (first last : ℕ) → InTextOrder tokens → first ≤ last → last < length tokens →
    (nth_extent tokens first).begin ≤ (nth_extent tokens last).end
begin-le-end tokens first last order le lt = elim (cases_lt first last) [
  | inl before ↦ omega (arith, order.filled first (omega (arith, before, lt)), order.apart first last before lt, order.filled last lt)
  | inr after ↦ let same : first ≡ last = omega arith in
      omega (arith, order.filled last lt, ap (λ n. (nth_extent tokens n).begin) same)
]

-- ---- the bytes of a run

pub seen_run : (s : Inside) (now : SomeTokens) (first last : ℕ) → tokens_seen s ≡ now → AreKept s → IsUtf8 s.doc.now.text → first ≤ last →
    last < length now.tokens → last < length s.offsets.now →
    IsBetween s.doc.now.text (run_extent now.tokens first last).begin (run_extent now.tokens first last).end
    (nth_bytes s.offsets.now first).begin (nth_bytes s.offsets.now last).end
seen_run s now first last seen kept u le lt inside =
    let tokens = tokens_of (characters s.doc.now) in
    let b = (nth_bytes s.offsets.now first).begin in
    let e = (nth_bytes s.offsets.now last).end in
    let long = seen-length s now seen kept in
    let one = seen-nth s now first seen kept (omega (arith, le, lt)) in
    let two = seen-nth s now last seen kept lt in
    let between = run_bytes s.doc.now.text s.first first last s.offsets.now u le inside
    (omega (arith, lt, long, kept.in_list)) kept.offsets in
    let P : Extent → Type 0 = λ x. IsBetween s.doc.now.text x.begin (nth_extent tokens (s.first + last)).end b e in
    let Q : Extent → Type 0 = λ x. IsBetween s.doc.now.text (nth_extent now.tokens first).begin x.end b e in
    subst Q (sym two) (subst P (sym one) between)
