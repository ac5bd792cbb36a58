-- The forms of white space, comments and tokens: which bytes of a program text are one. Where a form
-- goes on as long as it can, it is told with the bytes `after` it.
use Rattle.std.specs.Prelude.{◌≡◌, ◌≢◌, ℕ, ℤ, Bool, true, not, ◌||◌, ◌==◌, List, [], ◌∷◌, ◌++◌, All, slice_index, if◌then◌else◌, codes, ⊤, ◌⊎◌, FitsSigned}
use Rattle.std.specs.List.{AllPass, list_any, flat_map}
use Rattle.std.specs.Int.{w64}
use Rattle.std.specs.Char.{is_ascii_alphabetic, is_ascii_alphanumeric, is_ascii_digit}
use Rattle.std.specs.Str.{byte}
use Rattle.std.specs.Str.Parse.{signed_digits_value}
use Rattle.aql_lexer.specs.Kinds.{Kind, word, name, int, str, regex, symbol}

-- ---- runs of bytes

abbrev pub is_one_of : List ℕ → ℕ → Bool
is_one_of bytes b = list_any (λ c. b == c) bytes

abbrev pub is_line_feed : ℕ → Bool
is_line_feed b = b == 10

abbrev pub is_in_line : ℕ → Bool
is_in_line b = not (is_line_feed b)

-- a text doesn't go on with a byte that passes
abbrev pub StopsAt : (ℕ → Bool) → List ℕ → Type 0
StopsAt passes [] = ⊤
StopsAt passes (b ∷ bs) = not (passes b) ≡ true

-- the bytes that pass, up to the first that doesn't, or to the end of the text
pub record IsLongestRun (passes : ℕ → Bool) (run after : List ℕ) : Type 0 where
  pub passing : AllPass passes run
  pub longest : StopsAt passes after

-- ---- white space and comments

-- space, tab, CR, LF and form feed
abbrev pub is_white : ℕ → Bool
is_white b = is_one_of (32 ∷ 9 ∷ 13 ∷ 10 ∷ 12 ∷ []) b

-- one byte of white space, or a U+FEFF before which nothing stands
abbrev pub IsWhite : List ℕ → List ℕ → Type 0
IsWhite before bytes = ((b : ℕ) × (bytes ≡ b ∷ []) × (is_white b ≡ true)) ⊎ ((before ≡ []) × (bytes ≡ 0xEF ∷ 0xBB ∷ 0xBF ∷ []))

-- `--`, and the bytes before the next LF, or before the end of the text
pub record IsLineComment (bytes after : List ℕ) : Type 0 where
  pub inner : List ℕ
  pub begun : bytes ≡ codes "--" ++ inner
  pub to_line_end : IsLongestRun is_in_line inner after

-- `/*` and the bytes up to the next `*/`, which is looked for behind the `/*`
pub record IsBlockComment (bytes : List ℕ) : Type 0 where
  pub inner : List ℕ
  pub enclosed : bytes ≡ codes "/*" ++ (inner ++ codes "*/")
  pub next : (front back : List ℕ) → inner ≢ front ++ (codes "*/" ++ back)

abbrev pub IsComment : List ℕ → List ℕ → Type 0
IsComment bytes after = IsLineComment bytes after ⊎ IsBlockComment bytes

-- ---- words, names and numbers

abbrev pub begins_word : ℕ → Bool
begins_word b = is_ascii_alphabetic b || b == byte "_"

abbrev pub goes_on_word : ℕ → Bool
goes_on_word b = is_ascii_alphanumeric b || b == byte "_"

-- an ASCII letter or `_`, and then the longest run of ASCII letters, digits and `_`
abbrev pub IsWord : List ℕ → List ℕ → Type 0
IsWord [] after = ⊥
IsWord (b ∷ bs) after = (begins_word b ≡ true) × IsLongestRun goes_on_word bs after

abbrev pub is_in_name : ℕ → Bool
is_in_name b = not (b == byte "\"" || is_line_feed b)

-- `"`, one or more characters other than `"` and LF, and `"`
pub record IsName (text bytes : List ℕ) : Type 0 where
  pub quoted : bytes ≡ codes "\"" ++ (text ++ codes "\"")
  pub some : text ≢ []
  pub plain : AllPass is_in_name text

-- `-` or nothing, directly before the longest run of digits; the value is in the range of i64
pub record IsInt (number : ℤ) (bytes after : List ℕ) : Type 0 where
  pub digits : List ℕ
  pub signed : (bytes ≡ digits) ⊎ (bytes ≡ codes "-" ++ digits)
  pub some : digits ≢ []
  pub longest : IsLongestRun is_ascii_digit digits after
  pub value : number ≡ signed_digits_value 10 bytes
  pub in_range : FitsSigned w64 number

-- ---- strings and patterns

-- what strings and patterns are written with: a character, or a backslash and the character behind it
-- (of a longer character the first byte; its other bytes then stand for themselves)
pub data Piece : Type 0 where
  single : ℕ → Piece
  pair : ℕ → Piece

abbrev pub written : Piece → List ℕ
written (single b) = b ∷ []
written (pair b) = byte "\\" ∷ b ∷ []

-- what a piece stands for: before the characters that `escapes` names the backslash falls away
abbrev pub meant : (ℕ → Bool) → Piece → List ℕ
meant escapes (single b) = b ∷ []
meant escapes (pair b) = if escapes b then b ∷ [] else byte "\\" ∷ b ∷ []

-- a character in no pair is neither the quote nor a backslash
abbrev pub IsPiece : ℕ → Piece → Type 0
IsPiece quote (single b) = (b ≢ quote) × (b ≢ byte "\\")
IsPiece quote (pair b) = ⊤

-- the quote, pieces up to the first quote that is in no pair, and the quote
pub record IsQuoted (quote : ℕ) (escapes : ℕ → Bool) (text bytes : List ℕ) : Type 0 where
  pub pieces : List Piece
  pub in_turn : All (IsPiece quote) pieces
  pub quoted : bytes ≡ quote ∷ (flat_map written pieces ++ quote ∷ [])
  pub value : text ≡ flat_map (meant escapes) pieces

-- `\'` and `\\`
abbrev pub escapes_in_string : ℕ → Bool
escapes_in_string b = is_one_of (codes "'\\") b

-- `\/`
abbrev pub escapes_in_pattern : ℕ → Bool
escapes_in_pattern b = is_one_of (codes "/") b

-- pieces between `'` and `'`
abbrev pub IsStr : List ℕ → List ℕ → Type 0
IsStr text bytes = IsQuoted (byte "'") escapes_in_string text bytes

-- pieces on one line between `/` and `/`; `/*` begins a comment
pub record IsRegex (text bytes : List ℕ) : Type 0 where
  pub quoted : IsQuoted (byte "/") escapes_in_pattern text bytes
  pub one_line : AllPass is_in_line bytes
  pub no_comment : slice_index bytes 1 ≢ byte "*"

-- ---- symbols

abbrev pub is_symbol : ℕ → Bool
is_symbol b = is_one_of (codes "(),.;*<>{}") b

-- ---- tokens

-- the bytes, with `after` behind them, are a token of the kind
abbrev pub IsToken : Kind → List ℕ → List ℕ → Type 0
IsToken (word text) bytes after = (bytes ≡ text) × IsWord text after
IsToken (name text) bytes after = IsName text bytes
IsToken (int number) bytes after = IsInt number bytes after
IsToken (str text) bytes after = IsStr text bytes
IsToken (regex text) bytes after = IsRegex text bytes
IsToken (symbol b) bytes after = (bytes ≡ b ∷ []) × (is_symbol b ≡ true)
