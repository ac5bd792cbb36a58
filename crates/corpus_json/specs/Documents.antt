-- What a line of the corpus is: blank, a document, or neither.
use Rattle.std.specs.Prelude.{ℕ, List, Bool, not, codes, ◌==◌, ◌||◌, Option, None, Some, option_map, option_and_then, take_while, if◌then◌else◌, true, false}
use Rattle.std.specs.List.{list_all, filter_map}
use Rattle.std.specs.Str.{is_utf8}
use Rattle.serde_json.specs.Data.{Data}
use Rattle.serde_json.specs.Find.{get, as_str}
use Rattle.serde_json.specs.Read.{read}
use Rattle.span_token.specs.Documents.{Doc}
pub use Rattle.corpus_json.specs.Lines.{is_too_long}

-- a space, a tab or a CR
abbrev pub is_blank_byte : ℕ → Bool
is_blank_byte byte = byte == 32 || byte == 9 || byte == 13

-- the line has blank bytes alone, or none
abbrev pub is_blank : List ℕ → Bool
is_blank line = list_all is_blank_byte line

-- the string that is an object's member of that name
abbrev pub string_at : List ℕ → Data → Option (List ℕ)
string_at name value = option_and_then as_str (get name value)

-- the document of an object whose member `text` is a string: that text, and the member `label` where it is one
abbrev pub document_of : Data → Option Doc
document_of value = option_map (λ text. record { text = text; label = string_at (codes "label") value }) (string_at (codes "text") value)

-- the value that serde_json reads in the line, where it is UTF-8
abbrev pub value_of : List ℕ → Option Data
value_of line = if is_utf8 line then read line else None

-- the document that the line is, where it is one
unfoldable pub document_in : List ℕ → Option Doc
document_in line = option_and_then document_of (value_of line)

pub data Entry : Type 0 where
  blank : Entry
  good : Doc → Entry
  bad : Entry

abbrev pub good_or_bad : Option Doc → Entry
good_or_bad None = bad
good_or_bad (Some document) = good document

-- what a line is
abbrev pub entry_of : List ℕ → Entry
entry_of line = if is_blank line then blank else good_or_bad (document_in line)

abbrev pub is_bad : Entry → Bool
is_bad blank = false
is_bad (good document) = false
is_bad bad = true

abbrev pub good_of : Entry → Option Doc
good_of blank = None
good_of (good document) = Some document
good_of bad = None

-- a bad line: too long, or neither blank nor a document
abbrev pub is_bad_line : List ℕ → Bool
is_bad_line line = is_too_long line || is_bad (entry_of line)

-- the lines before the first bad one, or all where there is none
abbrev pub good_lines : List (List ℕ) → List (List ℕ)
good_lines lines = take_while (λ line. not (is_bad_line line)) lines

-- the documents of the good lines, in order
abbrev pub documents : List (List ℕ) → List Doc
documents lines = filter_map (λ line. good_of (entry_of line)) (good_lines lines)
