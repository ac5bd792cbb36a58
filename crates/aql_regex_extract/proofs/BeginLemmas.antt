-- Runs from one token begin alike: where no match begins as the longest one does, none of them has a match.
use Rattle.std.proofs.Common.{◌≡◌, ◌∙◌, ℕ, zero, suc, ◌+◌, ◌-◌, ◌<◌, ◌≤◌, ◌++◌, inl, inr, List, [], ◌∷◌, length, take, drop, true, Option, Some, None, is_some, option_map, IsTrue, refl, sym, ap, subst, arith}
use Rattle.std.proofs.Math.ListN.{get_or-eq_default}
use Rattle.std.proofs.Math.Seq.{take-add}
use Rattle.std.proofs.Math.Utf8.{encode, encodes}
use Rattle.std.proofs.lemmas.Bool.{cases_eq, cases_lt}
use Rattle.std.proofs.lemmas.List.{append-nil, get_or_append_left}
use Rattle.std.proofs.lemmas.Str.{encodes-append, length-le-encodes}
use Rattle.std.specs.Option.{option_or}
use Rattle.regex.specs.Patterns.{Match}
use Rattle.span_token.specs.Documents.{Doc, characters, text_in}
use Rattle.span_token.specs.Extents.{Extent, nth_extent}
use Rattle.span_token.specs.SourceTokens.{InTextOrder}
use Rattle.aql_regex_extract.specs.Bytes.{AdmitsMatches, AreBytes, Begins}
use Rattle.aql_regex_extract.specs.Matches.{first_match, row_of}
use Rattle.aql_regex_extract.specs.Patterns.{whole_form}
use Rattle.aql_regex_extract.specs.TokenRuns.{whole_row, longest_row, run_at}
use Rattle.aql_regex_extract.specs.declared.admitted.Admitted.{Admitted}
use Rattle.aql_regex_extract.specs.declared.byte_set.ByteSet.{ByteSet}

-- ---- texts that begin alike

-- the text of more characters goes on after that of fewer
goes_on : (xs : List ℕ) (n m : ℕ) → n ≤ m → encodes (take m xs) ≡ encodes (take n xs) ++ encodes (take (m - n) (drop n xs))
goes_on xs n m le =
    let count : m ≡ n + (m - n) = omega (arith, le) in
    ap (λ (k : ℕ). encodes (take k xs)) count ∙ ap encodes (take-add n (m - n) xs) ∙ encodes-append (take n xs) (take (m - n) (drop n xs))

bytes_of_begin : (xs rest : List ℕ) → AreBytes (xs ++ rest) → AreBytes xs
bytes_of_begin xs rest bytes = λ k. elim (cases_lt k (length xs)) [
  | inl before ↦ let byte = bytes k in omega (arith, get_or_append_left xs rest 0 k before, byte)
  | inr behind ↦ omega (arith, get_or-eq_default xs 0 {n = k} behind)
]

-- a character has a byte
lead : (set : ByteSet) (c : ℕ) (more rest : List ℕ) → (Begins set true (encode c ++ more) → ⊥) → Begins set true (encode c ++ rest) → ⊥
lead set c more rest lost begins = by_bytes (encode c) refl where
  by_bytes : (bytes : List ℕ) → encode c ≡ bytes → ⊥
  by_bytes [] is = let some = length-le-encodes (c ∷ []) in absurd (omega (arith, some, ap length (append-nil (encode c)), ap length is))
  by_bytes (b ∷ bs) is = lost (subst (λ (bytes : List ℕ). Begins set true (bytes ++ more)) (sym is) (subst (λ (bytes : List ℕ). Begins set true (bytes ++ rest)) is begins))

lead_lost : (set : ByteSet) (xs : List ℕ) (n m : ℕ) → 0 < n → n ≤ m → (Begins set true (encodes (take m xs)) → ⊥) → Begins set true (encodes (take n xs)) → ⊥
lead_lost set xs zero m some le lost begins = absurd (omega (arith, some))
lead_lost set xs (suc n) zero some le lost begins = absurd (omega (arith, le))
lead_lost set [] (suc n) (suc m) some le lost begins = lost refl
lead_lost set (c ∷ cs) (suc n) (suc m) some le lost begins = lead set c (encodes (take m cs)) (encodes (take n cs)) lost begins

-- ---- runs from a token

ends_rise : (tokens : List Extent) (i j : ℕ) → InTextOrder tokens → i ≤ j → j < length tokens → (nth_extent tokens i).end ≤ (nth_extent tokens j).end
ends_rise tokens i j order le lt = elim (cases_eq i j) [
  | inl same ↦ omega (arith, ap (λ (k : ℕ). (nth_extent tokens k).end) same)
  | inr other ↦
      let before : i < j = omega (arith, le, other) in
      let apart = order.apart i j before lt in
      let filled = order.filled j lt in
      omega (arith, apart, filled)
]

module _ (pattern : List ℕ) (d : Doc) (tokens : List Extent) (a : Admitted) (admits : AdmitsMatches (whole_form pattern) a) (order : InTextOrder tokens) (first count : ℕ)
    (there : first + count ≤ length tokens) (bytes : AreBytes (text_in d (run_at tokens first count))) (lost : Begins a.firsts true (text_in d (run_at tokens first count)) → ⊥) where
  -- no shorter run has a match
  pub none-begins : (groups : List ℕ) (k : ℕ) → 1 ≤ k → k ≤ count → whole_row pattern d groups (run_at tokens first k) ≡ None
  none-begins groups k some le =
      let begin = (nth_extent tokens first).begin in
      let short = (nth_extent tokens (first + k - 1)).end in
      let long = (nth_extent tokens (first + count - 1)).end in
      let filled = order.filled first (omega (arith, there, some, le)) in
      let from_first = ends_rise tokens first (first + k - 1) order (omega (arith, some)) (omega (arith, there, some, le)) in
      let to_last = ends_rise tokens (first + k - 1) (first + count - 1) order (omega (arith, some, le)) (omega (arith, there, some, le)) in
      let chars = drop begin (characters d) in
      let text = text_in d (run_at tokens first k) in
      let is_byte : AreBytes text = bytes_of_begin text (encodes (take (long - begin - (short - begin)) (drop (short - begin) chars)))
      (subst AreBytes (goes_on chars (short - begin) (long - begin) (omega (arith, to_last))) bytes) in
      let gone : Begins a.firsts true text → ⊥ = lead_lost a.firsts chars (short - begin) (long - begin) (omega (arith, filled, from_first)) (omega (arith, to_last)) lost in
      by_found text is_byte gone (first_match (whole_form pattern) text) refl where
        by_found : (text : List ℕ) → AreBytes text → (Begins a.firsts true text → ⊥) → (found : Option Match) → first_match (whole_form pattern) text ≡ found →
            option_map (row_of d (run_at tokens first k) groups) found ≡ None
        by_found text is_byte gone None is = refl
        by_found text is_byte gone (Some m) is = absurd (gone (admits.at text is_byte (subst (λ (o : Option Match). IsTrue (is_some o)) (sym is) refl)).0)

-- where no length has a row, the longest run has none
pub longest-none : (rows : ℕ → Option (List (Option Extent))) (low n : ℕ) → ((k : ℕ) → low ≤ k → k < low + n → rows k ≡ None) → longest_row rows low n ≡ None
longest-none rows low zero none = refl
longest-none rows low (suc n) none =
    ap (λ o. option_or o (longest_row rows low n)) (none (low + n) (omega arith) (omega arith))
    ∙ longest-none rows low n (λ k le lt. none k le (omega (arith, lt)))
