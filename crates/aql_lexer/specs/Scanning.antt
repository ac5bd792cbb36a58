-- What the scanner finds at the front of a text: a form and its length in bytes. The laws that join
-- this to the forms stand in proofs/Found.antt and proofs/Complete.antt.
use Rattle.std.specs.Prelude.{ℕ, ◌+◌, ◌-◌, ◌^◌, ℤ, pos, negsuc, Bool, true, false, not, ◌&&◌, ◌==◌, nat_lt, List, [], ◌∷◌, length, take, drop, slice_index, if◌then◌else◌, Option, Some, None, option_map, option_and_then, ◌≡◌, ◌≤◌, ◌<◌, ◌⊎◌, ⊤}
use Rattle.std.specs.List.{prefix_len}
use Rattle.std.specs.Str.{IsCharBoundary}
use Rattle.std.specs.Char.{is_ascii_digit}
use Rattle.std.specs.Str.Parse.{signed_digits_value}
use Rattle.aql_lexer.specs.Kinds.{word, name, int, str, regex, symbol}
use Rattle.aql_lexer.specs.Tokens.{is_in_line, is_white, begins_word, goes_on_word, is_in_name, escapes_in_string, escapes_in_pattern, is_symbol}
use Rattle.aql_lexer.specs.Reading.{Part, white, comment, token}
use Rattle.aql_lexer.specs.declared.scan.Form.{Form}
use Rattle.aql_lexer.specs.declared.scan.Form.TheVariants as form
use Rattle.aql_lexer.specs.declared.scan.Run.{Run}
use Rattle.aql_lexer.specs.declared.text.Escapes.{Escapes}
use Rattle.aql_lexer.specs.declared.text.Escapes.TheVariants as escapes
use Rattle.aql_lexer.specs.declared.scan.Run.TheVariants as run

-- ---- runs

abbrev pub goes_on : Run → ℕ → Bool
goes_on run.Word b = goes_on_word b
goes_on run.Digits b = is_ascii_digit b
goes_on run.Name b = is_in_name b
goes_on run.Line b = is_in_line b

-- ---- ends of quoted texts and comments

-- the place of the first quote that is in no pair, in a text that begins at `at`; the flag says that the
-- first byte is the second of a pair
abbrev pub closing_from : ℕ → Bool → ℕ → List ℕ → Option ℕ
closing_from quote in_pair at [] = None
closing_from quote in_pair at (b ∷ bs) =
    if not in_pair && b == quote then Some at else closing_from quote (not in_pair && b == 92) (at + 1) bs

-- the place of the first `*/`, in a text that begins at `at`
abbrev pub block_end_from : ℕ → List ℕ → Option ℕ
block_end_from at [] = None
block_end_from at (b ∷ bs) = if b == 42 && slice_index bs 0 == 47 then Some at else block_end_from (at + 1) bs

abbrev pub escapes_of : Escapes → ℕ → Bool
escapes_of escapes.Str b = escapes_in_string b
escapes_of escapes.Regex b = escapes_in_pattern b

-- what bytes between quotes stand for; the flag says that a backslash came directly before
abbrev pub unescaped_from : (ℕ → Bool) → Bool → List ℕ → List ℕ
unescaped_from escapes false [] = []
unescaped_from escapes true [] = 92 ∷ []
unescaped_from escapes false (b ∷ bs) = if b == 92 then unescaped_from escapes true bs else b ∷ unescaped_from escapes false bs
unescaped_from escapes true (b ∷ bs) = if escapes b then b ∷ unescaped_from escapes false bs else 92 ∷ b ∷ unescaped_from escapes false bs

-- ---- forms

-- a form and a length
abbrev pub Found : Type 0
Found = Option (Form × ℕ)

abbrev pub fits_i64 : ℤ → Bool
fits_i64 (pos n) = nat_lt n (2 ^ 63)
fits_i64 (negsuc n) = nat_lt n (2 ^ 63)

-- no sign, or the one byte `-`
abbrev pub IsSign : ℕ → List ℕ → Type 0
IsSign sign z = (sign ≡ 0) ⊎ ((sign ≡ 1) × (slice_index z 0 ≡ 45))

-- the number behind `sign` bytes of sign
abbrev pub number : ℕ → List ℕ → Found
number sign z =
    let len = sign + prefix_len is_ascii_digit (drop sign z) in
    let value = signed_digits_value 10 (take len z) in
    if fits_i64 value then Some (form.Int value, len) else None

abbrev pub quoted_name : List ℕ → Found
quoted_name z =
    let len = prefix_len is_in_name (drop 1 z) in
    if slice_index z (len + 1) == 34 && not (len == 0) then Some (form.Name, len + 2) else None

abbrev pub string : List ℕ → Found
string z = option_map (λ len. (form.Str, len + 2)) (closing_from 39 false 0 (drop 1 z))

abbrev pub on_one_line : List ℕ → ℕ → Found
on_one_line z len = if prefix_len is_in_line (take len z) == len then Some (form.Regex, len) else None

abbrev pub pattern : List ℕ → Found
pattern z = option_and_then (λ len. on_one_line z (len + 2)) (closing_from 47 false 0 (drop 1 z))

abbrev pub line_comment : List ℕ → Found
line_comment z = Some (form.Comment, 2 + prefix_len is_in_line (drop 2 z))

abbrev pub block_comment : List ℕ → Found
block_comment z = option_map (λ len. (form.Comment, len + 4)) (block_end_from 0 (drop 2 z))

abbrev pub minus : List ℕ → Found
minus z =
    if slice_index z 1 == 45 then line_comment z
    else (if is_ascii_digit (slice_index z 1) then number 1 z else None)

abbrev pub slash : List ℕ → Found
slash z = if slice_index z 1 == 42 then block_comment z else pattern z

abbrev pub begins_mark : List ℕ → Bool
begins_mark z = slice_index z 0 == 239 && slice_index z 1 == 187 && slice_index z 2 == 191

-- the forms that one byte announces
abbrev pub marked : Bool → List ℕ → Found
marked at_start z =
    let b = slice_index z 0 in
    if b == 45 then minus z
    else (if b == 47 then slash z
    else (if b == 34 then quoted_name z
    else (if b == 39 then string z
    else (if at_start && begins_mark z then Some (form.White, 3) else None))))

-- what stands at the front of a text; the flag says that nothing stands before it
abbrev pub stands : Bool → List ℕ → Found
stands at_start z =
    let b = slice_index z 0 in
    if begins_word b then Some (form.Word, prefix_len goes_on_word z)
    else (if is_ascii_digit b then number 0 z
    else (if is_white b then Some (form.White, 1)
    else (if is_symbol b then Some (form.Symbol b, 1)
    else marked at_start z)))

-- ---- parts

-- the bytes between the first and the last
abbrev pub between : List ℕ → List ℕ
between bytes = take (length bytes - 2) (drop 1 bytes)

-- two bytes or more, of which the first and the last are ASCII
abbrev pub IsEnclosed : List ℕ → Type 0
IsEnclosed bytes = (2 ≤ length bytes) × (slice_index bytes 0 < 128) × (slice_index bytes (length bytes - 1) < 128)

abbrev pub IsEnclosedIn : Form → List ℕ → Type 0
IsEnclosedIn form.Name bytes = IsEnclosed bytes
IsEnclosedIn form.Str bytes = IsEnclosed bytes
IsEnclosedIn form.Regex bytes = IsEnclosed bytes
IsEnclosedIn _ bytes = ⊤

abbrev pub part_of : Form → List ℕ → Part
part_of form.White bytes = white bytes
part_of form.Comment bytes = comment bytes
part_of form.Word bytes = token (word bytes) bytes
part_of form.Name bytes = token (name (between bytes)) bytes
part_of (form.Int number) bytes = token (int number) bytes
part_of form.Str bytes = token (str (unescaped_from escapes_in_string false (between bytes))) bytes
part_of form.Regex bytes = token (regex (unescaped_from escapes_in_pattern false (between bytes))) bytes
part_of (form.Symbol b) bytes = token (symbol b) bytes

-- what a found form says of the bytes that it takes from the front of a text
pub record IsCut (z : List ℕ) (found : Form × ℕ) : Type 0 where
  pub some : 0 < found.1
  pub boundary : IsCharBoundary z found.1
  pub enclosed : IsEnclosedIn found.0 (take found.1 z)
