-- Whatever stands at the front of a text by the definition is what the scanner finds.
use Rattle.std.proofs.Common.{◌≡◌, ◌≢◌, ℕ, suc, ◌+◌, ◌⊎◌, Bool, true, false, ◌==◌, List, [], ◌∷◌, ◌++◌, length, take, drop, ℤ, SFits, w64, slice_index, Some, refl, sym, ap, ◌∙◌, inl, inr, arith, zero-add, one-add, add-one}
use Rattle.std.specs.Char.{is_ascii_digit}
use Rattle.std.specs.List.{prefix_len, flat_map, AllPass, All}
use Rattle.std.specs.Str.Parse.{signed_digits_value}
use Rattle.std.proofs.lemmas.Bool.{eqb-false, eq-eqb, ne_eqb}
use Rattle.std.proofs.lemmas.Bool.Decides.{nat_tests}
use Rattle.std.proofs.lemmas.List.{append_assoc, length-append, take_at, get_or_at, nil_from_length, append-nil}
use Rattle.aql_lexer.specs.Kinds.{int, word, name, str, regex, symbol}
use Rattle.aql_lexer.specs.Tokens.{is_white, is_symbol, begins_word, goes_on_word, is_in_line, is_in_name, escapes_in_string, escapes_in_pattern, Piece, written, meant, IsPiece, IsWhite, IsComment, IsWord, IsInt, IsName, IsQuoted, IsRegex, IsLongestRun}
use Rattle.aql_lexer.specs.Reading.{Part, white, comment, token, bytes_of, IsPart}
use Rattle.aql_lexer.specs.Scanning.{Found, number, stands, pattern, unescaped_from, between, part_of}
use Rattle.aql_lexer.specs.declared.scan.Form.{Form}
use Rattle.aql_lexer.specs.declared.scan.Form.TheVariants as form
use Rattle.aql_lexer.proofs.Runs.{prefix_len-longest}
use Rattle.aql_lexer.proofs.Numbers.{fits-true}
use Rattle.aql_lexer.proofs.Quotes.{closing_close, unescaped-pieces, between-quoted, taken-quoted, length-quoted}
use Rattle.aql_lexer.proofs.Blocks.{HasNoEnd, block_close}
use Rattle.aql_lexer.proofs.Found.{word_goes_on}

-- the scanner finds the part, with its bytes, in front of `after`
pub record Finds (at_start : Bool) (part : Part) (after : List ℕ) : Type 0 where
  pub form : Form
  pub found : stands at_start (bytes_of part ++ after) ≡ Some (form, length (bytes_of part))
  pub same : part_of form (bytes_of part) ≡ part

-- ---- bytes that announce one form are no bytes of another

digit_no_word : (b : ℕ) → is_ascii_digit b ≡ true → begins_word b ≡ false
digit_no_word b h = grind (arith, nat_tests)

white_only : (b : ℕ) → is_white b ≡ true → (begins_word b ≡ false) × (is_ascii_digit b ≡ false)
white_only b h = (grind (arith, nat_tests), grind (arith, nat_tests))

symbol_only : (b : ℕ) → is_symbol b ≡ true → (begins_word b ≡ false) × (is_ascii_digit b ≡ false) × (is_white b ≡ false)
symbol_only b h = (grind (arith, nat_tests), grind (arith, nat_tests), grind (arith, nat_tests))

-- ---- white space, words and symbols

white_stands : (at_start : Bool) (b : ℕ) (after : List ℕ) → is_white b ≡ true → stands at_start (b ∷ after) ≡ Some (form.White, 1)
white_stands at_start b after h = let other = white_only b h in rw (other.0, other.1, h)

symbol_stands : (at_start : Bool) (b : ℕ) (after : List ℕ) → is_symbol b ≡ true → stands at_start (b ∷ after) ≡ Some (form.Symbol b, 1)
symbol_stands at_start b after h = let other = symbol_only b h in rw (other.0, other.1, other.2, h)

mark_stands : (after : List ℕ) → stands true (239 ∷ 187 ∷ 191 ∷ after) ≡ Some (form.White, 3)
mark_stands after = refl

word_stands : (at_start : Bool) (text after : List ℕ) → IsWord text after → stands at_start (text ++ after) ≡ Some (form.Word, length text)
word_stands at_start [] after h = absurd h
word_stands at_start (b ∷ bs) after h = rw (h.0, word_goes_on b h.0, prefix_len-longest goes_on_word bs after h.1, one-add)

-- ---- numbers

numbered : (sign : ℕ) (z bytes : List ℕ) (value : ℤ) (len : ℕ) → sign + prefix_len is_ascii_digit (drop sign z) ≡ len → take len z ≡ bytes → value ≡ signed_digits_value 10 bytes → SFits w64 value → number sign z ≡ Some (form.Int value, len)
numbered sign z bytes value len e taken is fits =
    let same : signed_digits_value 10 bytes ≡ value = sym is in
    rw (e, taken, same, fits-true value fits)

by_digit : (at_start : Bool) (z : List ℕ) (found : Found) → is_ascii_digit (slice_index z 0) ≡ true → number 0 z ≡ found → stands at_start z ≡ found
by_digit at_start z found digit h = rw (digit_no_word _ digit, digit) h

by_minus : (at_start : Bool) (z : List ℕ) (found : Found) → slice_index z 0 ≡ 45 → is_ascii_digit (slice_index z 1) ≡ true → number 1 z ≡ found → stands at_start z ≡ found
by_minus at_start z found front digit h =
    let other : (slice_index z 1 == 45) ≡ false = grind (arith, nat_tests) in
    rw (front, other, digit) h

digits_stand : (at_start : Bool) (value : ℤ) (digits after : List ℕ) → digits ≢ [] → IsLongestRun is_ascii_digit digits after → value ≡ signed_digits_value 10 digits → SFits w64 value → stands at_start (digits ++ after) ≡ Some (form.Int value, length digits)
digits_stand at_start value [] after some run is fits = absurd (some refl)
digits_stand at_start value (d ∷ ds) after some run is fits =
    let len = zero-add _ ∙ prefix_len-longest is_ascii_digit (d ∷ ds) after run in
    by_digit at_start (d ∷ (ds ++ after)) _ (run.passing 0 0 (omega arith))
    (numbered 0 (d ∷ (ds ++ after)) (d ∷ ds) value (length (d ∷ ds)) len (take_at (d ∷ ds) after _ refl) is fits)

minus_stands : (at_start : Bool) (value : ℤ) (digits after : List ℕ) → digits ≢ [] → IsLongestRun is_ascii_digit digits after → value ≡ signed_digits_value 10 (45 ∷ digits) → SFits w64 value → stands at_start (45 ∷ (digits ++ after)) ≡ Some (form.Int value, suc (length digits))
minus_stands at_start value [] after some run is fits = absurd (some refl)
minus_stands at_start value (d ∷ ds) after some run is fits =
    let len : 1 + prefix_len is_ascii_digit (d ∷ (ds ++ after)) ≡ suc (length (d ∷ ds)) = omega (arith, prefix_len-longest is_ascii_digit (d ∷ ds) after run) in
    by_minus at_start (45 ∷ d ∷ (ds ++ after)) _ refl (run.passing 0 0 (omega arith))
    (numbered 1 (45 ∷ d ∷ (ds ++ after)) (45 ∷ d ∷ ds) value (suc (length (d ∷ ds))) len (take_at (45 ∷ d ∷ ds) after _ refl) is fits)

-- ---- comments

line_comment_stands : (at_start : Bool) (inner after : List ℕ) → IsLongestRun is_in_line inner after → stands at_start (45 ∷ 45 ∷ (inner ++ after)) ≡ Some (form.Comment, suc (suc (length inner)))
line_comment_stands at_start inner after run =
    let len : 2 + prefix_len is_in_line (inner ++ after) ≡ suc (suc (length inner)) = omega (arith, prefix_len-longest is_in_line inner after run) in
    rw len

block_comment_stands : (at_start : Bool) (inner after : List ℕ) → HasNoEnd inner → stands at_start (47 ∷ 42 ∷ (inner ++ (42 ∷ 47 ∷ after))) ≡ Some (form.Comment, length inner + 4)
block_comment_stands at_start inner after first = rw (block_close 0 inner after first, zero-add)

-- ---- texts between quotes

name_stands : (at_start : Bool) (text after : List ℕ) → text ≢ [] → AllPass is_in_name text → stands at_start (34 ∷ (text ++ (34 ∷ after))) ≡ Some (form.Name, length text + 2)
name_stands at_start text after some plain =
    let len = prefix_len-longest is_in_name text (34 ∷ after) (record { passing = plain; longest = refl }) in
    let end : slice_index (text ++ (34 ∷ after)) (length text) ≡ 34 = get_or_at text 34 after 0 (length text) refl in
    let more : (length text == 0) ≡ false = ne_eqb (length text) 0 (λ e. some (nil_from_length text e)) in
    rw (len, add-one, end, more)

string_stands : (at_start : Bool) (pieces : List Piece) (after : List ℕ) → All (IsPiece 39) pieces → stands at_start (39 ∷ (flat_map written pieces ++ (39 ∷ after))) ≡ Some (form.Str, length (flat_map written pieces) + 2)
string_stands at_start pieces after h =
    let other = eqb-false 39 92 refl in
    rw (closing_close 39 0 pieces after other h, zero-add)

by_slash : (at_start : Bool) (z : List ℕ) (found : Found) → slice_index z 0 ≡ 47 → slice_index z 1 ≢ 42 → pattern z ≡ found → stands at_start z ≡ found
by_slash at_start z found front other h = rw (front, ne_eqb _ 42 other) h

same_second : (inner after : List ℕ) → slice_index (inner ++ (47 ∷ after)) 0 ≡ slice_index (inner ++ (47 ∷ [])) 0
same_second [] after = refl
same_second (b ∷ bs) after = refl

whole_line : (bytes : List ℕ) → AllPass is_in_line bytes → prefix_len is_in_line bytes ≡ length bytes
whole_line bytes line =
    let h = prefix_len-longest is_in_line bytes [] (record { passing = line; longest = tt }) in
    rw (append-nil bytes) at h

pattern_stands : (at_start : Bool) (pieces : List Piece) (after : List ℕ) → All (IsPiece 47) pieces → AllPass is_in_line (47 ∷ (flat_map written pieces ++ (47 ∷ []))) → slice_index (47 ∷ (flat_map written pieces ++ (47 ∷ []))) 1 ≢ 42 → stands at_start (47 ∷ (flat_map written pieces ++ (47 ∷ after))) ≡ Some (form.Regex, length (flat_map written pieces) + 2)
pattern_stands at_start pieces after h line no_comment =
    let inner = flat_map written pieces in
    let other = eqb-false 47 92 refl in
    let len : prefix_len is_in_line (take (length inner + 2) (47 ∷ (inner ++ (47 ∷ after)))) ≡ length inner + 2 =
    rw (taken-quoted 47 inner after) (whole_line (47 ∷ (inner ++ (47 ∷ []))) line ∙ length-quoted 47 inner) in
    by_slash at_start (47 ∷ (inner ++ (47 ∷ after))) _ refl (λ e. no_comment (sym (same_second inner after) ∙ e))
    (rw (closing_close 47 0 pieces after other h, zero-add, len, eq-eqb (length inner + 2) _ refl))

-- ---- all parts

at_beginning : (at_start : Bool) (before after : List ℕ) → (before ≡ [] → at_start ≡ true) → before ≡ [] → stands at_start (239 ∷ 187 ∷ 191 ∷ after) ≡ Some (form.White, 3)
at_beginning at_start before after first e = rw (first e)

white_complete : (before : List ℕ) (at_start : Bool) (bytes after : List ℕ) → (before ≡ [] → at_start ≡ true) → IsWhite before bytes → Finds at_start (white bytes) after
white_complete before at_start bytes after first (inl h) = rw h.1 record { form = form.White; found = white_stands at_start h.0 after h.2; same = refl }
white_complete before at_start bytes after first (inr h) = rw h.1 record { form = form.White; found = at_beginning at_start before after first h.0; same = refl }

comment_complete : (at_start : Bool) (bytes after : List ℕ) → IsComment bytes after → Finds at_start (comment bytes) after
comment_complete at_start bytes after (inl h) = rw h.begun record { form = form.Comment; found = line_comment_stands at_start h.inner after h.to_line_end; same = refl }
comment_complete at_start bytes after (inr h) =
    let len : suc (suc (length (h.inner ++ (42 ∷ 47 ∷ [])))) ≡ length h.inner + 4 = omega (arith, length-append h.inner (42 ∷ 47 ∷ [])) in
    rw h.enclosed record { form = form.Comment; found = rw (append_assoc h.inner (42 ∷ 47 ∷ []) after, len) (block_comment_stands at_start h.inner after h.next); same = refl }

int_stands : (at_start : Bool) (value : ℤ) (bytes digits after : List ℕ) → (bytes ≡ digits) ⊎ (bytes ≡ 45 ∷ digits) → digits ≢ [] → IsLongestRun is_ascii_digit digits after → value ≡ signed_digits_value 10 bytes → SFits w64 value → stands at_start (bytes ++ after) ≡ Some (form.Int value, length bytes)
int_stands at_start value bytes digits after (inl e) some run is fits =
    let at_digits : value ≡ signed_digits_value 10 digits = is ∙ ap (λ bs. signed_digits_value 10 bs) e in
    rw e (digits_stand at_start value digits after some run at_digits fits)
int_stands at_start value bytes digits after (inr e) some run is fits =
    let at_digits : value ≡ signed_digits_value 10 (45 ∷ digits) = is ∙ ap (λ bs. signed_digits_value 10 bs) e in
    rw e (minus_stands at_start value digits after some run at_digits fits)

int_complete : (at_start : Bool) (value : ℤ) (bytes after : List ℕ) → IsInt value bytes after → Finds at_start (token (int value) bytes) after
int_complete at_start value bytes after h = record { form = form.Int value; found = int_stands at_start value bytes h.digits after h.signed h.some h.longest h.value h.in_range; same = refl }

-- the quoted bytes and what is behind them, as one list
in_front : (at_start : Bool) (quote : ℕ) (inner after : List ℕ) (f : Form) → stands at_start (quote ∷ (inner ++ (quote ∷ after))) ≡ Some (f, length inner + 2)
    → stands at_start ((quote ∷ (inner ++ (quote ∷ []))) ++ after) ≡ Some (f, length (quote ∷ (inner ++ (quote ∷ []))))
in_front at_start quote inner after f h =
    let split : (quote ∷ (inner ++ (quote ∷ []))) ++ after ≡ quote ∷ (inner ++ (quote ∷ after)) = ap (λ bs. quote ∷ bs) (append_assoc inner (quote ∷ []) after) in
    let len : ◌≡◌ {A = Found} (Some (f, length inner + 2)) (Some (f, length (quote ∷ (inner ++ (quote ∷ []))))) = ap (λ (n : ℕ). Some (f, n)) (sym (length-quoted quote inner)) in
    ap (λ z. stands at_start z) split ∙ h ∙ len

name_complete : (at_start : Bool) (text bytes after : List ℕ) → IsName text bytes → Finds at_start (token (name text) bytes) after
name_complete at_start text bytes after h = rw h.quoted record {
  form = form.Name;
  found = in_front at_start 34 text after form.Name (name_stands at_start text after h.some h.plain);
  same = rw between-quoted;
}

meant_is : (escapes : ℕ → Bool) (quote : ℕ) (pieces : List Piece) (text : List ℕ) → All (IsPiece quote) pieces → text ≡ flat_map (meant escapes) pieces → unescaped_from escapes false (between (quote ∷ (flat_map written pieces ++ (quote ∷ [])))) ≡ text
meant_is escapes quote pieces text h e = rw (between-quoted quote (flat_map written pieces)) (unescaped-pieces escapes quote pieces h ∙ sym e)

str_complete : (at_start : Bool) (text bytes after : List ℕ) → IsQuoted 39 escapes_in_string text bytes → Finds at_start (token (str text) bytes) after
str_complete at_start text bytes after h = rw h.quoted record {
  form = form.Str;
  found = in_front at_start 39 (flat_map written h.pieces) after form.Str (string_stands at_start h.pieces after h.in_turn);
  same = rw (meant_is escapes_in_string 39 h.pieces text h.in_turn h.value);
}

regex_at : (at_start : Bool) (pieces : List Piece) (text bytes after : List ℕ) → bytes ≡ 47 ∷ (flat_map written pieces ++ (47 ∷ [])) → All (IsPiece 47) pieces → text ≡ flat_map (meant escapes_in_pattern) pieces → AllPass is_in_line bytes → slice_index bytes 1 ≢ 42 → Finds at_start (token (regex text) bytes) after
regex_at at_start pieces text bytes after e h value line no_comment =
    let line_at : AllPass is_in_line (47 ∷ (flat_map written pieces ++ (47 ∷ []))) = rw e at line in
    let second : slice_index (47 ∷ (flat_map written pieces ++ (47 ∷ []))) 1 ≢ 42 = rw e at no_comment in
    rw e record {
      form = form.Regex;
      found = in_front at_start 47 (flat_map written pieces) after form.Regex (pattern_stands at_start pieces after h line_at second);
      same = rw (meant_is escapes_in_pattern 47 pieces text h value);
    }

regex_complete : (at_start : Bool) (text bytes after : List ℕ) → IsRegex text bytes → Finds at_start (token (regex text) bytes) after
regex_complete at_start text bytes after h =
    regex_at at_start h.quoted.pieces text bytes after h.quoted.quoted h.quoted.in_turn h.quoted.value h.one_line h.no_comment

symbol_complete : (at_start : Bool) (b : ℕ) (bytes after : List ℕ) → bytes ≡ b ∷ [] → is_symbol b ≡ true → Finds at_start (token (symbol b) bytes) after
symbol_complete at_start b bytes after e h = rw e record { form = form.Symbol b; found = symbol_stands at_start b after h; same = refl }

word_complete : (at_start : Bool) (text bytes after : List ℕ) → bytes ≡ text → IsWord text after → Finds at_start (token (word text) bytes) after
word_complete at_start text bytes after e h = rw e record { form = form.Word; found = word_stands at_start text after h; same = refl }

pub complete : (before : List ℕ) (at_start : Bool) (part : Part) (after : List ℕ) → (before ≡ [] → at_start ≡ true) → IsPart before part after → Finds at_start part after
complete before at_start (white bytes) after first h = white_complete before at_start bytes after first h
complete before at_start (comment bytes) after first h = comment_complete at_start bytes after h
complete before at_start (token (word text) bytes) after first h = word_complete at_start text bytes after h.0 h.1
complete before at_start (token (name text) bytes) after first h = name_complete at_start text bytes after h
complete before at_start (token (int value) bytes) after first h = int_complete at_start value bytes after h
complete before at_start (token (str text) bytes) after first h = str_complete at_start text bytes after h
complete before at_start (token (regex text) bytes) after first h = regex_complete at_start text bytes after h
complete before at_start (token (symbol b) bytes) after first h = symbol_complete at_start b bytes after h.0 h.1
