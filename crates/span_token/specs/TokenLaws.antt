-- The tokens of a text: `tokens_of` is the one list that `AreTokens`, and its tokens stand apart.
use Rattle.std.proofs.Common.{◌≡◌, ◌≤◌, ◌<◌, ◌+◌, ◌-◌, ◌∙◌, inl, inr, ℕ, zero, suc, max, Bool, true, false, cond, not, List, length, get_or, drop, refl, sym, ap, subst, arith}
use Rattle.std.specs.List.{Contains, filter, prefix_len, range_with_len}
use Rattle.std.proofs.lemmas.Bool.{cases_lt}
use Rattle.std.proofs.lemmas.List.{get_or-drop, length-drop}
use Rattle.std.proofs.lemmas.List.Elements.{Contains-get_or}
use Rattle.std.proofs.lemmas.List.Sums.{prefix_len-drop_yes, prefix_len-drop_no, prefix_len-le-length, prefix_len_is, prefix_len_passes, prefix_len_stops}
use Rattle.std.proofs.lemmas.List.Kept.{AllPairs-filter}
use Rattle.unicode.specs.Binary.{is_white_space}
use Rattle.span_token.specs.Extents.{Extent}
use Rattle.span_token.specs.Words.{is_word_char}
use Rattle.span_token.specs.Tokens.{IsWord, IsMark, IsToken, AreTokens, is_word_before, begins_token, token_at, tokens_of}
use Rattle.span_token.specs.ExtentLaws.{same_extent}
use Rattle.span_token.specs.RisingLists.{same_rising, Contains-listed, IsFrom-Contains, Contains-range, in_range, AllPairs-range, AllPairs-map}

-- the word characters from `k` on
abbrev pub word_len : List ℕ → ℕ → ℕ
word_len cs k = prefix_len is_word_char (drop k cs)

not_before : (cs : List ℕ) (k : ℕ) → is_word_before cs k ≡ false → (j : ℕ) → j + 1 ≡ k → is_word_char (get_or cs j 0) ≡ false
not_before cs zero e j h = absurd (omega (arith, h))
not_before cs (suc k) e j h = let same : j ≡ k = omega (arith, h) in rw same e

gap : (k j : ℕ) → k ≤ j → k + (j - k) ≡ j
gap k j h = omega arith

longer : (n : ℕ) → 1 ≤ n → max 1 n ≡ n
longer n h = omega arith

pub word_in_run : (cs : List ℕ) (k j : ℕ) → k ≤ j → j < k + word_len cs k → is_word_char (get_or cs j 0) ≡ true
word_in_run cs k j low high =
    ap (λ i. is_word_char (get_or cs i 0)) (sym (gap k j low)) ∙ ap is_word_char (sym (get_or-drop k cs (j - k) 0))
    ∙ prefix_len_passes is_word_char (drop k cs) (j - k) 0 (omega arith)

pub none_past_run : (cs : List ℕ) (k : ℕ) → k + word_len cs k < length cs → is_word_char (get_or cs (k + word_len cs k) 0) ≡ false
none_past_run cs k h =
    ap is_word_char (sym (get_or-drop k cs (word_len cs k) 0))
    ∙ prefix_len_stops is_word_char (drop k cs) 0 (omega (arith, length-drop k cs))

word_from : (cs : List ℕ) (k : ℕ) → k < length cs → is_word_char (get_or cs k 0) ≡ true → is_word_before cs k ≡ false → IsWord cs (token_at cs k)
word_from cs k short word before =
    let some : word_len cs k ≡ 1 + word_len cs (k + 1) = prefix_len-drop_yes is_word_char cs k 0 short word in
    let all : max 1 (word_len cs k) ≡ word_len cs k = longer (word_len cs k) (omega (arith, some)) in
    let room : k + word_len cs k ≤ length cs = omega (arith, prefix_len-le-length is_word_char (drop k cs), length-drop k cs) in
    record {
      not_empty = omega (arith, some);
      in_text = omega (arith, room, some);
      word_chars = λ j low high. word_in_run cs k j low (omega (arith, high, some));
      none_before = not_before cs k before;
      none_after = λ h. rw all (none_past_run cs k (omega (arith, h, some)));
    }

mark_from : (cs : List ℕ) (k : ℕ) → k < length cs → is_word_char (get_or cs k 0) ≡ false → is_white_space (get_or cs k 0) ≡ false → IsMark cs (token_at cs k)
mark_from cs k short word space =
    let none : word_len cs k ≡ 0 = prefix_len-drop_no is_word_char cs k 0 short word in
    record { one = rw none refl; in_text = omega (arith, none); no_word_char = word; no_space = space }

not-false : (b : Bool) → not b ≡ true → b ≡ false
not-false true e = absurd cc
not-false false e = refl

token_from_tests : (b : Bool) (cs : List ℕ) (k : ℕ) → k < length cs → is_word_char (get_or cs k 0) ≡ b
    → cond b (not (is_word_before cs k)) (not (is_white_space (get_or cs k 0))) ≡ true → IsToken cs (token_at cs k)
token_from_tests true cs k short word h = inl (word_from cs k short word (not-false (is_word_before cs k) h))
token_from_tests false cs k short word h = inr (mark_from cs k short word (not-false (is_white_space (get_or cs k 0)) h))

-- where the tests say that a token begins, one does
pub token_from_begin : (cs : List ℕ) (k : ℕ) → k < length cs → begins_token cs k ≡ true → IsToken cs (token_at cs k)
token_from_begin cs k short h = token_from_tests (is_word_char (get_or cs k 0)) cs k short refl h

-- what the tests say of a token
pub record IsFound (cs : List ℕ) (e : Extent) : Type 0 where
  pub short : e.begin < length cs
  pub begins : begins_token cs e.begin ≡ true
  pub same : token_at cs e.begin ≡ e

before_none : (cs : List ℕ) (k : ℕ) → ((j : ℕ) → j + 1 ≡ k → is_word_char (get_or cs j 0) ≡ false) → is_word_before cs k ≡ false
before_none cs zero h = refl
before_none cs (suc k) h = h k (omega arith)

found_word : (cs : List ℕ) (e : Extent) → IsWord cs e → IsFound cs e
found_word cs e w =
    let first : is_word_char (get_or cs e.begin 0) ≡ true = w.word_chars e.begin (omega arith) w.not_empty in
    let before : is_word_before cs e.begin ≡ false = before_none cs e.begin w.none_before in
    let long : word_len cs e.begin ≡ e.end - e.begin =
    prefix_len_is is_word_char (drop e.begin cs) (e.end - e.begin) 0 (omega (arith, w.in_text, length-drop e.begin cs))
    (λ j h. ap is_word_char (get_or-drop e.begin cs j 0) ∙ w.word_chars (e.begin + j) (omega arith) (omega (arith, h)))
    (λ h. ap is_word_char (get_or-drop e.begin cs (e.end - e.begin) 0)
    ∙ ap (λ i. is_word_char (get_or cs i 0)) (gap e.begin e.end (omega (arith, w.not_empty)))
    ∙ w.none_after (omega (arith, h, length-drop e.begin cs))) in
    record {
      short = omega (arith, w.not_empty, w.in_text);
      begins = rw (first, before) refl;
      same = same_extent (token_at cs e.begin) e refl (omega (arith, long, w.not_empty));
    }

found_mark : (cs : List ℕ) (e : Extent) → IsMark cs e → IsFound cs e
found_mark cs e m =
    let short : e.begin < length cs = omega (arith, m.one, m.in_text) in
    let none : word_len cs e.begin ≡ 0 = prefix_len-drop_no is_word_char cs e.begin 0 short m.no_word_char in
    record {
      short = short;
      begins = rw (m.no_word_char, m.no_space) refl;
      same = same_extent (token_at cs e.begin) e refl (omega (arith, none, m.one));
    }

pub found_token : (cs : List ℕ) (e : Extent) → IsToken cs e → IsFound cs e
found_token cs e (inl w) = found_word cs e w
found_token cs e (inr m) = found_mark cs e m

-- the listed tokens are exactly the tokens, in order
pub tokens_of_are : (cs : List ℕ) → AreTokens cs (tokens_of cs)
unfolding tokens_of
tokens_of_are cs = record {
  rising = AllPairs-map (token_at cs) (λ t u. t.begin < u.begin) (filter (begins_token cs) (range_with_len 0 (length cs)))
      (AllPairs-filter (λ j k. j < k) (begins_token cs) (range_with_len 0 (length cs)) (AllPairs-range 0 (length cs)));
  exactly = λ e. (
    λ h.
        let f = IsFrom-Contains (token_at cs) (begins_token cs) (range_with_len 0 (length cs)) e h in
        let place = in_range 0 (length cs) f.at f.listed in
        subst (IsToken cs) f.gives (token_from_begin cs f.at (omega (arith, place.1)) f.passes),
    λ t.
        let f = found_token cs e t in
        let place = Contains-range 0 (length cs) e.begin (omega arith) (omega (arith, f.short)) in
        subst (Contains (tokens_of cs)) f.same
        (Contains-listed (token_at cs) (begins_token cs) (range_with_len 0 (length cs)) e.begin place f.begins),
  );
}

-- no other list is
pub tokens_are_unique : (cs : List ℕ) (ts us : List Extent) → AreTokens cs ts → AreTokens cs us → ts ≡ us
tokens_are_unique cs ts us t u =
    same_rising (λ e. e.begin) ts us t.rising u.rising (λ e h. (u.exactly e).1 ((t.exactly e).0 h)) (λ e h. (t.exactly e).1 ((u.exactly e).0 h))

clash : (b : Bool) → b ≡ true → b ≡ false → ⊥
clash b e f = cc

by_cases_le : (a b : ℕ) → (b < a → ⊥) → a ≤ b
by_cases_le a b h = elim (cases_lt b a) [ inl l ↦ absurd (h l) | inr l ↦ l ]

-- a token ends at or before the begin of each later one
pub tokens_apart : (cs : List ℕ) (t u : Extent) → IsToken cs t → IsToken cs u → t.begin < u.begin → t.end ≤ u.begin
tokens_apart cs t u (inr m) v h = omega (arith, m.one, h)
tokens_apart cs t u (inl w) (inl v) h =
    by_cases_le t.end u.begin
    (λ inside. clash (is_word_char (get_or cs (u.begin - 1) 0)) (w.word_chars (u.begin - 1) (omega arith) (omega (arith, inside)))
    (v.none_before (u.begin - 1) (omega arith)))
tokens_apart cs t u (inl w) (inr n) h =
    by_cases_le t.end u.begin
    (λ inside. clash (is_word_char (get_or cs u.begin 0)) (w.word_chars u.begin (omega arith) inside) n.no_word_char)

pub token_not_empty : (cs : List ℕ) (t : Extent) → IsToken cs t → t.begin < t.end
token_not_empty cs t (inl w) = w.not_empty
token_not_empty cs t (inr m) = omega (arith, m.one)

pub token_in_text : (cs : List ℕ) (t : Extent) → IsToken cs t → t.end ≤ length cs
token_in_text cs t (inl w) = w.in_text
token_in_text cs t (inr m) = m.in_text

-- each listed token is one, and ends at or before the begin of each later one
pub token_in_list : (cs : List ℕ) (i : ℕ) (d : Extent) → i < length (tokens_of cs) → IsToken cs (get_or (tokens_of cs) i d)
token_in_list cs i d l = ((tokens_of_are cs).exactly (get_or (tokens_of cs) i d)).0 (Contains-get_or (tokens_of cs) i d l)

pub apart : (cs : List ℕ) (i j : ℕ) (d : Extent) → i < j → j < length (tokens_of cs) → (get_or (tokens_of cs) i d).end ≤ (get_or (tokens_of cs) j d).begin
apart cs i j d h l =
    tokens_apart cs (get_or (tokens_of cs) i d) (get_or (tokens_of cs) j d) (token_in_list cs i d (omega arith)) (token_in_list cs j d l)
    ((tokens_of_are cs).rising i j d h l)
