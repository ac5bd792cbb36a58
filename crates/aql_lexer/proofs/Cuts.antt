-- Where a part ends the text may be cut, and a quoted part has ASCII at both ends.
use Rattle.std.proofs.Common.{◌≡◌, ◌≢◌, ℕ, suc, ◌+◌, ◌-◌, ◌<◌, ◌≤◌, ◌⊎◌, true, List, [], ◌∷◌, ◌++◌, length, take, drop, get_or, All, refl, sym, ap, ◌∙◌, inl, inr, arith, add-zero}
use Rattle.std.specs.Char.{is_ascii_digit}
use Rattle.std.specs.Str.{IsUtf8, IsCharBoundary}
use Rattle.std.specs.List.{AllPass}
use Rattle.std.proofs.lemmas.Bool.{not-true, not-false, eqb-true}
use Rattle.std.proofs.lemmas.Bool.Decides.{nat_tests}
use Rattle.std.proofs.lemmas.List.{get_or-take, get_or-drop, get_or_at, append_assoc, length-append, length-drop, length-take-le, take-append-drop}
use Rattle.std.proofs.lemmas.Str.{IsCharBoundary-after_ascii, IsCharBoundary-before_ascii, IsCharBoundary-end, IsCharBoundary-past_char}
use Rattle.aql_lexer.specs.Tokens.{IsWhite, IsComment, IsWord, StopsAt, is_white, is_symbol, is_in_line, begins_word, goes_on_word}
use Rattle.aql_lexer.specs.Scanning.{IsEnclosed, IsEnclosedIn, IsCut}
use Rattle.aql_lexer.specs.declared.scan.Form.{Form}
use Rattle.aql_lexer.specs.declared.scan.Form.TheVariants as form
use Rattle.aql_lexer.proofs.Numbers.{digit_is_ascii}
use Rattle.aql_lexer.proofs.Found.{Holds}

-- the last byte is ASCII
abbrev EndsInAscii : List ℕ → Type 0
EndsInAscii bytes = get_or bytes (length bytes - 1) 0 < 128

goes_on_ascii : (b : ℕ) → goes_on_word b ≡ true → b < 128
goes_on_ascii b h = grind (arith, nat_tests)

white_ascii : (b : ℕ) → is_white b ≡ true → b < 128
white_ascii b h = grind (arith, nat_tests)

symbol_ascii : (b : ℕ) → is_symbol b ≡ true → b < 128
symbol_ascii b h = grind (arith, nat_tests)

cut_after_ascii : (z : List ℕ) (n : ℕ) → IsUtf8 z → 0 < n → n ≤ length z → EndsInAscii (take n z) → IsCharBoundary z n
cut_after_ascii z n utf8 some within last =
    let len = length-take-le n z within in
    let at_last : get_or (take n z) (n - 1) 0 < 128 = rw len at last in
    let in_text : get_or z (n - 1) 0 < 128 = rw (← get_or-take n z (n - 1) 0 (omega arith)) at_last in
    let e : n - 1 + 1 ≡ n = omega arith in
    rw (← e) (IsCharBoundary-after_ascii z (n - 1) utf8 (omega arith) in_text)

single_ends : (b : ℕ) (bytes : List ℕ) → bytes ≡ b ∷ [] → b < 128 → EndsInAscii bytes
single_ends b bytes e h = rw e h

-- a list of ASCII ends in ASCII
all_ends : (b : ℕ) (bs : List ℕ) → b < 128 → All (λ c. c < 128) bs → EndsInAscii (b ∷ bs)
all_ends b [] h hs = h
all_ends b (c ∷ cs) h hs = let e : suc (suc (length cs)) - 1 ≡ suc (length cs) = omega arith in rw e (hs (length cs) 0 (omega arith))

last-append : (bs : List ℕ) (c : ℕ) → get_or (bs ++ c ∷ []) (length (bs ++ c ∷ []) - 1) 0 ≡ c
last-append bs c =
    let e : length (bs ++ c ∷ []) - 1 ≡ length bs = omega (arith, length-append bs (c ∷ [])) in
    rw e (get_or_at bs c [] 0 (length bs) refl)

quoted_ends : (quote : ℕ) (inner bytes : List ℕ) → quote < 128 → bytes ≡ quote ∷ (inner ++ quote ∷ []) → IsEnclosed bytes
quoted_ends quote inner bytes small e =
    let last : get_or (quote ∷ (inner ++ quote ∷ [])) (length (quote ∷ (inner ++ quote ∷ [])) - 1) 0 ≡ quote = last-append (quote ∷ inner) quote in
    rw e (omega (arith, length-append inner (quote ∷ [])), small, rw last small)

-- ---- the forms

word_ends : (text after : List ℕ) → IsWord text after → EndsInAscii text
word_ends [] after h = absurd h
word_ends (b ∷ bs) after h =
    let first : b < 128 = let front : begins_word b ≡ true = h.0 in grind (arith, nat_tests) in
    all_ends b bs first (λ k d l. goes_on_ascii _ (h.1.passing k d l))

int_ends : (bytes digits : List ℕ) → (bytes ≡ digits) ⊎ (bytes ≡ 45 ∷ digits) → digits ≢ [] → AllPass is_ascii_digit digits → EndsInAscii bytes
int_ends bytes [] signed some h = absurd (some refl)
int_ends bytes (d ∷ ds) (inl e) some h = rw e (all_ends d ds (digit_is_ascii d (h 0 0 (omega arith))) (λ k d l. digit_is_ascii _ (h (suc k) d (omega arith))))
int_ends bytes (d ∷ ds) (inr e) some h = rw e (all_ends 45 (d ∷ ds) (omega arith) (λ k d l. digit_is_ascii _ (h k d l)))

block_ends : (inner bytes : List ℕ) → bytes ≡ 47 ∷ 42 ∷ (inner ++ (42 ∷ 47 ∷ [])) → EndsInAscii bytes
block_ends inner bytes e =
    let split : 47 ∷ 42 ∷ (inner ++ (42 ∷ 47 ∷ [])) ≡ (47 ∷ 42 ∷ (inner ++ 42 ∷ [])) ++ 47 ∷ [] = ap (λ bs. 47 ∷ 42 ∷ bs) (sym (append_assoc inner (42 ∷ []) (47 ∷ []))) in
    let last = last-append (47 ∷ 42 ∷ (inner ++ 42 ∷ [])) 47 in
    let whole : bytes ≡ (47 ∷ 42 ∷ (inner ++ 42 ∷ [])) ++ 47 ∷ [] = e ∙ split in
    rw (whole, last) (omega arith)

-- a line's rest ends before an LF or at the end of the text
line_ends : (z : List ℕ) (n : ℕ) (rest : List ℕ) → n ≤ length z → drop n z ≡ rest → StopsAt is_in_line rest → IsCharBoundary z n
line_ends z n [] within e h =
    let len : length (drop n z) ≡ 0 = ap length e in
    let all : length z ≡ n = omega (arith, len, length-drop n z) in
    rw (← all) (IsCharBoundary-end z)
line_ends z n (b ∷ bs) within e h =
    let len : length (drop n z) ≡ suc (length bs) = ap length e in
    let first : get_or (drop n z) 0 0 ≡ b = ap (λ xs. get_or xs 0 0) e in
    let at_place : get_or z n 0 ≡ b = rw (get_or-drop n z 0 0, add-zero) at first in
    let feed : b ≡ 10 = eqb-true b 10 (not-false _ (not-true _ h)) in
    IsCharBoundary-before_ascii z n (omega (arith, len, length-drop n z)) (omega (arith, at_place, feed))

mark_ends : (z : List ℕ) → IsUtf8 z → take 3 z ≡ 239 ∷ 187 ∷ 191 ∷ [] → IsCharBoundary z 3
unfolding lib.Utf8.encode
mark_ends z utf8 e =
    let split : z ≡ 239 ∷ 187 ∷ 191 ∷ drop 3 z = sym (take-append-drop 3 z) ∙ ap (λ bs. bs ++ drop 3 z) e in
    IsCharBoundary-past_char z (drop 3 z) 0 65279 (omega arith) utf8 split

white_ends : (z : List ℕ) (n : ℕ) → IsUtf8 z → 0 < n → n ≤ length z → IsWhite [] (take n z) → IsCharBoundary z n
white_ends z n utf8 some within (inl w) = cut_after_ascii z n utf8 some within (single_ends w.0 _ w.1 (white_ascii w.0 w.2))
white_ends z n utf8 some within (inr w) =
    let len : length (take n z) ≡ 3 = ap length w.1 in
    let three : n ≡ 3 = omega (arith, len, length-take-le n z within) in
    let taken : take 3 z ≡ 239 ∷ 187 ∷ 191 ∷ [] = rw three at w.1 in
    rw three (mark_ends z utf8 taken)

comment_ends : (z : List ℕ) (n : ℕ) → IsUtf8 z → 0 < n → n ≤ length z → IsComment (take n z) (drop n z) → IsCharBoundary z n
comment_ends z n utf8 some within (inl c) = line_ends z n (drop n z) within refl c.to_line_end.longest
comment_ends z n utf8 some within (inr c) = cut_after_ascii z n utf8 some within (block_ends c.inner _ c.enclosed)

ends : (z : List ℕ) (f : Form) (n : ℕ) → IsUtf8 z → Holds [] z (f, n) → IsCharBoundary z n
ends z form.White n utf8 h = white_ends z n utf8 h.some h.within h.part
ends z form.Comment n utf8 h = comment_ends z n utf8 h.some h.within h.part
ends z form.Word n utf8 h = cut_after_ascii z n utf8 h.some h.within (word_ends _ _ h.part.1)
ends z form.Name n utf8 h = cut_after_ascii z n utf8 h.some h.within (quoted_ends 34 _ _ (omega arith) h.part.quoted).2
ends z (form.Int value) n utf8 h = cut_after_ascii z n utf8 h.some h.within (int_ends _ _ h.part.signed h.part.some h.part.longest.passing)
ends z form.Str n utf8 h = cut_after_ascii z n utf8 h.some h.within (quoted_ends 39 _ _ (omega arith) h.part.quoted).2
ends z form.Regex n utf8 h = cut_after_ascii z n utf8 h.some h.within (quoted_ends 47 _ _ (omega arith) h.part.quoted.quoted).2
ends z (form.Symbol b) n utf8 h = cut_after_ascii z n utf8 h.some h.within (single_ends b _ h.part.0 (symbol_ascii b h.part.1))

enclosed : (z : List ℕ) (f : Form) (n : ℕ) → Holds [] z (f, n) → IsEnclosedIn f (take n z)
enclosed z form.White n h = tt
enclosed z form.Comment n h = tt
enclosed z form.Word n h = tt
enclosed z form.Name n h = quoted_ends 34 _ _ (omega arith) h.part.quoted
enclosed z (form.Int value) n h = tt
enclosed z form.Str n h = quoted_ends 39 _ _ (omega arith) h.part.quoted
enclosed z form.Regex n h = quoted_ends 47 _ _ (omega arith) h.part.quoted.quoted
enclosed z (form.Symbol b) n h = tt

pub cut : (z : List ℕ) (found : Form × ℕ) → IsUtf8 z → Holds [] z found → IsCut z found
cut z (f, n) utf8 h = record { some = h.some; boundary = ends z f n utf8 h; enclosed = enclosed z f n h }
