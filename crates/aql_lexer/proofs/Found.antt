-- What the scanner finds is what the definition says.
use Rattle.std.proofs.Common.{◌≡◌, ◌≢◌, ℕ, zero, suc, ◌+◌, ◌<◌, ◌≤◌, ◌⊎◌, Bool, true, false, cond, ◌&&◌, ◌==◌, List, [], ◌∷◌, ◌++◌, length, take, drop, slice_index, get_or, Option, Some, None, option_map, option_and_then, refl, sym, ap, subst, ◌∙◌, inl, inr, arith, zero-add, one-add, add-one}
use Rattle.std.specs.Char.{is_ascii_digit}
use Rattle.std.specs.List.{prefix_len, flat_map, AllPass, All}
use Rattle.std.specs.Str.Parse.{signed_digits_value}
use Rattle.std.proofs.lemmas.Bool.{both_ways, and_parts, and_right, eqb-true, eqb-false, not-true}
use Rattle.std.proofs.lemmas.Bool.Decides.{nat_tests}
use Rattle.std.proofs.lemmas.List.{append_assoc, length-append, length-drop, length-take, get_or-take, drop_more, take_at, drop-drop, take-append-drop}
use Rattle.std.proofs.lemmas.List.Sums.{prefix_len-le-length, prefix_len_passes}
use Rattle.std.proofs.lemmas.Option.{none-some, cond_some, same_Some}
use Rattle.aql_lexer.specs.Tokens.{is_white, is_symbol, begins_word, goes_on_word, is_in_line, is_in_name, escapes_in_string, escapes_in_pattern, Piece, written, IsPiece, IsQuoted}
use Rattle.aql_lexer.specs.Reading.{IsPart}
use Rattle.aql_lexer.specs.Scanning.{Found, IsSign, fits_i64, number, minus, slash, marked, stands, begins_mark, line_comment, block_comment, block_end_from, quoted_name, string, on_one_line, pattern, closing_from, unescaped_from, between, part_of}
use Rattle.aql_lexer.specs.declared.scan.Form.{Form}
use Rattle.aql_lexer.specs.declared.scan.Form.TheVariants as form
use Rattle.aql_lexer.proofs.Runs.{longest_run, length-run, run_passes}
use Rattle.aql_lexer.proofs.Numbers.{fits-false, run_begun}
use Rattle.aql_lexer.proofs.Quotes.{ClosesAt, closing_found, unescaped-pieces, taken-quoted, between-quoted}
use Rattle.aql_lexer.proofs.Blocks.{HasNoEnd, block_found}

-- the form and the length hold of the front of a text
pub record Holds (before z : List ℕ) (found : Form × ℕ) : Type 0 where
  pub some : 0 < found.1
  pub within : found.1 ≤ length z
  pub part : IsPart before (part_of found.0 (take found.1 z)) (drop found.1 z)

-- ---- words

pub word_goes_on : (b : ℕ) → begins_word b ≡ true → goes_on_word b ≡ true
word_goes_on b h = grind (arith, nat_tests)

word_len : (b : ℕ) (bs : List ℕ) → begins_word b ≡ true → prefix_len goes_on_word (b ∷ bs) ≡ suc (prefix_len goes_on_word bs)
word_len b bs h = rw (word_goes_on b h, one-add)

pub word_found : (before z : List ℕ) → begins_word (slice_index z 0) ≡ true → Holds before z (form.Word, prefix_len goes_on_word z)
word_found before [] h = absurd (both_ways _ refl h)
word_found before (b ∷ bs) h = record {
  some = omega (arith, word_len b bs h);
  within = prefix_len-le-length goes_on_word (b ∷ bs);
  part = rw (word_len b bs h) (refl, (h, longest_run goes_on_word bs));
}

-- ---- numbers

digit_within : (z : List ℕ) (at : ℕ) → is_ascii_digit (get_or z at 0) ≡ true → at < length z
digit_within [] at h = absurd (both_ways _ refl h)
digit_within (b ∷ bs) zero h = omega arith
digit_within (b ∷ bs) (suc n) h = omega (arith, digit_within bs n h)

-- the taken bytes are the digits, or `-` and the digits
number_parts : (sign : ℕ) (z : List ℕ) → IsSign sign z → sign < length z
    → (take (sign + prefix_len is_ascii_digit (drop sign z)) z ≡ take (prefix_len is_ascii_digit (drop sign z)) (drop sign z))
    ⊎ (take (sign + prefix_len is_ascii_digit (drop sign z)) z ≡ 45 ∷ take (prefix_len is_ascii_digit (drop sign z)) (drop sign z))
number_parts zero z signed some = inl (rw zero-add)
number_parts (suc n) [] signed some = absurd (omega arith)
number_parts (suc n) (b ∷ bs) (inl e) some = absurd (omega arith)
number_parts (suc zero) (b ∷ bs) (inr e) some = inr (rw (one-add, e.1))
number_parts (suc (suc n)) (b ∷ bs) (inr e) some = absurd (omega arith)

number_holds : (before : List ℕ) (sign : ℕ) (z : List ℕ) → IsSign sign z → is_ascii_digit (slice_index z sign) ≡ true
    → fits_i64 (signed_digits_value 10 (take (sign + prefix_len is_ascii_digit (drop sign z)) z)) ≡ true
    → Holds before z (form.Int (signed_digits_value 10 (take (sign + prefix_len is_ascii_digit (drop sign z)) z)), sign + prefix_len is_ascii_digit (drop sign z))
number_holds before sign z signed digit fits =
    let within = digit_within z sign digit in
    let some = run_begun is_ascii_digit z sign within digit in
    let len = length-run is_ascii_digit (drop sign z) in
    record {
      some = omega (arith, some);
      within = omega (arith, prefix_len-le-length is_ascii_digit (drop sign z), length-drop sign z);
      part = record {
        digits = take (prefix_len is_ascii_digit (drop sign z)) (drop sign z);
        signed = number_parts sign z signed within;
        some = λ e. let none : length (take (prefix_len is_ascii_digit (drop sign z)) (drop sign z)) ≡ 0 = ap length e in omega arith;
        longest = rw (← drop-drop (prefix_len is_ascii_digit (drop sign z)) sign z) (longest_run is_ascii_digit (drop sign z));
        value = refl;
        in_range = fits-false _ fits;
      };
    }

pub number_found : (before : List ℕ) (sign : ℕ) (z : List ℕ) (found : Form × ℕ) → IsSign sign z → is_ascii_digit (slice_index z sign) ≡ true → number sign z ≡ Some found → Holds before z found
number_found before sign z found signed digit h =
    let p = cond_some _ _ found h in
    subst (Holds before z) p.1 (number_holds before sign z signed digit p.0)

-- ---- white space and symbols

pub white_found : (before z : List ℕ) → is_white (slice_index z 0) ≡ true → Holds before z (form.White, 1)
white_found before [] h = absurd (both_ways _ refl h)
white_found before (b ∷ bs) h = record { some = omega arith; within = omega arith; part = inl (b, refl, h) }

pub symbol_found : (before z : List ℕ) → is_symbol (slice_index z 0) ≡ true → Holds before z (form.Symbol (slice_index z 0), 1)
symbol_found before [] h = absurd (both_ways _ refl h)
symbol_found before (b ∷ bs) h = record { some = omega arith; within = omega arith; part = (refl, h) }

-- ---- comments

line_comment_holds : (before z : List ℕ) → Holds before (45 ∷ 45 ∷ z) (form.Comment, 2 + prefix_len is_in_line z)
line_comment_holds before z =
    let two : 2 + prefix_len is_in_line z ≡ suc (suc (prefix_len is_in_line z)) = omega arith in
    record {
      some = omega arith;
      within = omega (arith, prefix_len-le-length is_in_line z);
      part = inl (rw two record { inner = take (prefix_len is_in_line z) z; begun = refl; to_line_end = longest_run is_in_line z });
    }

pub line_comment_found : (before z : List ℕ) (found : Form × ℕ) → slice_index z 0 ≡ 45 → slice_index z 1 ≡ 45 → line_comment z ≡ Some found → Holds before z found
line_comment_found before [] found e f h = absurd (cc)
line_comment_found before (b ∷ []) found e f h = absurd (cc)
line_comment_found before (b ∷ c ∷ z) found e f h =
    let is : (form.Comment, 2 + prefix_len is_in_line z) ≡ found = cc in
    subst (Holds before (b ∷ c ∷ z)) is (rw (e, f) (line_comment_holds before z))

block_taken : (inner back : List ℕ) → take (length inner + 4) (47 ∷ 42 ∷ (inner ++ (42 ∷ 47 ∷ back))) ≡ 47 ∷ 42 ∷ (inner ++ (42 ∷ 47 ∷ []))
block_taken inner back =
    let e : 47 ∷ 42 ∷ (inner ++ (42 ∷ 47 ∷ back)) ≡ (47 ∷ 42 ∷ (inner ++ (42 ∷ 47 ∷ []))) ++ back = ap (λ bs. 47 ∷ 42 ∷ bs) (sym (append_assoc inner (42 ∷ 47 ∷ []) back)) in
    rw e (take_at (47 ∷ 42 ∷ (inner ++ (42 ∷ 47 ∷ []))) back _ (omega (arith, length-append inner (42 ∷ 47 ∷ []))))

block_comment_holds : (before z inner back : List ℕ) (place : ℕ) → z ≡ inner ++ (42 ∷ 47 ∷ back) → place ≡ 0 + length inner → HasNoEnd inner → Holds before (47 ∷ 42 ∷ z) (form.Comment, place + 4)
block_comment_holds before z inner back place split at_place first = rw (split, at_place, zero-add) record {
  some = omega arith;
  within = omega (arith, length-append inner (42 ∷ 47 ∷ back));
  part = inr (rw (block_taken inner back) record { inner = inner; enclosed = refl; next = first });
}

option_map_parts : {A B : Type 0} (g : A → B) (o : Option A) (y : B) → option_map g o ≡ Some y → (x : A) × (o ≡ Some x) × (g x ≡ y)
option_map_parts g None y h = absurd (none-some y h)
option_map_parts g (Some x) y h = (x, refl, same_Some (g x) y h)

pub block_comment_found : (before z : List ℕ) (found : Form × ℕ) → slice_index z 0 ≡ 47 → slice_index z 1 ≡ 42 → block_comment z ≡ Some found → Holds before z found
block_comment_found before [] found e f h = absurd (cc)
block_comment_found before (b ∷ []) found e f h = absurd (cc)
block_comment_found before (b ∷ c ∷ z) found e f h =
    let p = option_map_parts (λ (len : ℕ). (form.Comment, len + 4)) (block_end_from 0 z) found h in
    let r = block_found 0 z p.0 p.1 in
    subst (Holds before (b ∷ c ∷ z)) p.2 (rw (e, f) (block_comment_holds before z r.inner r.back p.0 r.split r.at_place r.first))

-- ---- texts between quotes

name_holds : (before z inner back : List ℕ) (n : ℕ) → z ≡ inner ++ (34 ∷ back) → n ≡ length inner → AllPass is_in_name inner → 0 < n → Holds before (34 ∷ z) (form.Name, n + 2)
name_holds before z inner back n split len plain some = rw (split, len) record {
  some = omega arith;
  within = omega (arith, length-append inner (34 ∷ back));
  part = rw (taken-quoted 34 inner back, between-quoted 34 inner) record {
    quoted = refl;
    some = λ e. let none : length inner ≡ 0 = ap length e in omega arith;
    plain = plain;
  };
}

within_text : (z : List ℕ) (n b : ℕ) → get_or z n 0 ≡ suc b → n < length z
within_text [] n b h = absurd (cc)
within_text (c ∷ cs) zero b h = omega arith
within_text (c ∷ cs) (suc n) b h = omega (arith, within_text cs n b h)

pub quoted_name_found : (before z : List ℕ) (found : Form × ℕ) → slice_index z 0 ≡ 34 → quoted_name z ≡ Some found → Holds before z found
quoted_name_found before [] found e h = absurd (cc)
quoted_name_found before (b ∷ z) found e h =
    let n = prefix_len is_in_name z in
    let p = cond_some _ _ found h in
    let parts = and_parts _ _ p.0 in
    let at_end : get_or (b ∷ z) (n + 1) 0 ≡ 34 = eqb-true _ _ parts.0 in
    let last : get_or z n 0 ≡ 34 = rw add-one at at_end in
    let some : n ≢ 0 = eqb-false n 0 (not-true _ parts.1) in
    let within = within_text z n 33 last in
    let tail : drop n z ≡ 34 ∷ drop (n + 1) z = rw (drop_more z n 0 within, last) in
    let split : z ≡ take n z ++ (34 ∷ drop (n + 1) z) = rw (← tail) (sym (take-append-drop n z)) in
    subst (Holds before (b ∷ z)) p.1 (rw e (name_holds before z (take n z) (drop (n + 1) z) n split (sym (length-run is_in_name z)) (run_passes is_in_name z) (omega arith)))

quoted_at : (quote : ℕ) (escapes : ℕ → Bool) (pieces : List Piece) (back : List ℕ) → All (IsPiece quote) pieces
    → IsQuoted quote escapes (unescaped_from escapes false (between (take (length (flat_map written pieces) + 2) (quote ∷ (flat_map written pieces ++ quote ∷ back))))) (take (length (flat_map written pieces) + 2) (quote ∷ (flat_map written pieces ++ quote ∷ back)))
quoted_at quote escapes pieces back h = rw (taken-quoted quote (flat_map written pieces) back, between-quoted quote (flat_map written pieces))
    record { pieces = pieces; in_turn = h; quoted = refl; value = unescaped-pieces escapes quote pieces h }

-- the closing quote at its place makes the bytes up to it a quoted text
quoted_holds : (quote : ℕ) (escapes : ℕ → Bool) (b : ℕ) (z : List ℕ) (place : ℕ) → b ≡ quote → ClosesAt quote 0 z place
    → IsQuoted quote escapes (unescaped_from escapes false (between (take (place + 2) (b ∷ z)))) (take (place + 2) (b ∷ z))
quoted_holds quote escapes b z place front r =
    let e : place ≡ length (flat_map written r.pieces) = omega (arith, r.at_place) in
    rw (front, e, r.split) (quoted_at quote escapes r.pieces r.back r.in_turn)

closes_within : (quote : ℕ) (z : List ℕ) (place : ℕ) → ClosesAt quote 0 z place → place < length z
closes_within quote z place r =
    let len : length z ≡ length (flat_map written r.pieces ++ quote ∷ r.back) = ap length r.split in
    omega (arith, r.at_place, len, length-append (flat_map written r.pieces) (quote ∷ r.back))

pub string_found : (before z : List ℕ) (found : Form × ℕ) → slice_index z 0 ≡ 39 → string z ≡ Some found → Holds before z found
string_found before [] found e h = absurd (cc)
string_found before (b ∷ z) found e h =
    let p = option_map_parts (λ (len : ℕ). (form.Str, len + 2)) (closing_from 39 false 0 z) found h in
    let r = closing_found 39 0 z p.0 p.1 in
    subst (Holds before (b ∷ z)) p.2 record {
      some = omega arith;
      within = omega (arith, closes_within 39 z p.0 r);
      part = quoted_holds 39 escapes_in_string b z p.0 e r;
    }

all_pass : (passes : ℕ → Bool) (z : List ℕ) (n : ℕ) → prefix_len passes (take n z) ≡ n → AllPass passes (take n z)
all_pass passes z n h k d l = prefix_len_passes passes (take n z) k d (omega (arith, length-take n z))

and_then_parts : {A B : Type 0} (g : A → Option B) (o : Option A) (y : B) → option_and_then g o ≡ Some y → (x : A) × (o ≡ Some x) × (g x ≡ Some y)
and_then_parts g None y h = absurd (none-some y h)
and_then_parts g (Some x) y h = (x, refl, h)

pub pattern_found : (before z : List ℕ) (found : Form × ℕ) → slice_index z 0 ≡ 47 → slice_index z 1 ≢ 42 → pattern z ≡ Some found → Holds before z found
pattern_found before [] found e f h = absurd (cc)
pattern_found before (b ∷ z) found e f h =
    let p = and_then_parts (λ (len : ℕ). on_one_line (b ∷ z) (len + 2)) (closing_from 47 false 0 z) found h in
    let r = closing_found 47 0 z p.0 p.1 in
    let line = cond_some _ _ found p.2 in
    let one_line = all_pass is_in_line (b ∷ z) (p.0 + 2) (eqb-true _ _ line.0) in
    let second : slice_index (take (p.0 + 2) (b ∷ z)) 1 ≡ slice_index (b ∷ z) 1 = get_or-take (p.0 + 2) (b ∷ z) 1 0 (omega arith) in
    subst (Holds before (b ∷ z)) line.1 record {
      some = omega arith;
      within = omega (arith, closes_within 47 z p.0 r);
      part = record { quoted = quoted_holds 47 escapes_in_pattern b z p.0 e r; one_line = one_line; no_comment = λ g. f (sym second ∙ g) };
    }

-- ---- the mark at the beginning of a text

mark_holds : (before z : List ℕ) → before ≡ [] → Holds before (239 ∷ 187 ∷ 191 ∷ z) (form.White, 3)
mark_holds before z first = record { some = omega arith; within = omega arith; part = inr (first, refl) }

pub mark_found : (before z : List ℕ) → before ≡ [] → begins_mark z ≡ true → Holds before z (form.White, 3)
mark_found before [] first h = absurd (both_ways _ refl h)
mark_found before (b ∷ []) first h = absurd (both_ways _ (and_right (b == 239 && false) false refl) h)
mark_found before (b ∷ c ∷ []) first h = absurd (both_ways _ (and_right (b == 239 && c == 187) false refl) h)
mark_found before (b ∷ c ∷ d ∷ z) first h =
    let last = and_parts _ _ h in
    let front = and_parts _ _ last.0 in
    rw (eqb-true b 239 front.0, eqb-true c 187 front.1, eqb-true d 191 last.1) (mark_holds before z first)

-- ---- all forms

choose : {P : Type 0} (b : Bool) (x y : Found) (found : Form × ℕ) → (b ≡ true → x ≡ Some found → P) → (b ≡ false → y ≡ Some found → P) → cond b x y ≡ Some found → P
choose true x y found f g h = f refl h
choose false x y found f g h = g refl h

minus_found : (before z : List ℕ) (found : Form × ℕ) → slice_index z 0 ≡ 45 → minus z ≡ Some found → Holds before z found
minus_found before z found front =
    choose _ _ _ found (λ e. line_comment_found before z found front (eqb-true _ _ e))
    (λ _. choose _ _ _ found (λ digit. number_found before 1 z found (inr (refl, front)) digit) (λ _ h. absurd (none-some found h)))

slash_found : (before z : List ℕ) (found : Form × ℕ) → slice_index z 0 ≡ 47 → slash z ≡ Some found → Holds before z found
slash_found before z found front =
    choose _ _ _ found (λ e. block_comment_found before z found front (eqb-true _ _ e)) (λ other. pattern_found before z found front (eqb-false _ _ other))

marked_found : (before z : List ℕ) (at_start : Bool) (found : Form × ℕ) → (at_start ≡ true → before ≡ []) → marked at_start z ≡ Some found → Holds before z found
marked_found before z at_start found first =
    choose _ _ _ found (λ e. minus_found before z found (eqb-true _ _ e))
    (λ _. choose _ _ _ found (λ e. slash_found before z found (eqb-true _ _ e))
    (λ _. choose _ _ _ found (λ e. quoted_name_found before z found (eqb-true _ _ e))
    (λ _. choose _ _ _ found (λ e. string_found before z found (eqb-true _ _ e))
    (λ _. choose _ _ _ found
    (λ e h. let p = and_parts at_start (begins_mark z) e in subst (Holds before z) (same_Some _ _ h) (mark_found before z (first p.0) p.1))
    (λ _ h. absurd (none-some found h))))))

pub stands_found : (before z : List ℕ) (at_start : Bool) (found : Form × ℕ) → (at_start ≡ true → before ≡ []) → stands at_start z ≡ Some found → Holds before z found
stands_found before z at_start found first =
    choose _ _ _ found (λ e h. subst (Holds before z) (same_Some _ _ h) (word_found before z e))
    (λ _. choose _ _ _ found (λ digit. number_found before 0 z found (inl refl) digit)
    (λ _. choose _ _ _ found (λ e h. subst (Holds before z) (same_Some _ _ h) (white_found before z e))
    (λ _. choose _ _ _ found (λ e h. subst (Holds before z) (same_Some _ _ h) (symbol_found before z e))
    (λ _. marked_found before z at_start found first))))
