-- Documents as definitions see them: their text and label, and their spans.
use Rattle.std.specs.Prelude.{ℕ, ◌+◌, ◌≤◌, List, Option, length, take, slice_range, chars, encode_utf8_all}
use Rattle.span_token.specs.Extents.{Extent}

-- a document: the bytes of its text, and those of its label where it has one
pub record Doc : Type 0 where
  pub text : List ℕ
  pub label : Option (List ℕ)

-- its characters, which are Unicode scalar values
abbrev pub characters : Doc → List ℕ
characters d = chars d.text

-- how many characters it has
abbrev pub len_of : Doc → ℕ
len_of d = length (characters d)

-- an extent lies in a document where it ends at or before the document's end
abbrev pub LiesIn : Extent → Doc → Type 0
LiesIn e d = e.end ≤ len_of d

-- the extent of all characters
abbrev pub whole_of : Doc → Extent
whole_of d = record { begin = 0; end = len_of d }

-- the bytes of an extent's characters
abbrev pub text_in : Doc → Extent → List ℕ
text_in d e = encode_utf8_all (slice_range (characters d) e.begin e.end)

-- how many characters of a text stand before a byte
abbrev pub chars_before : List ℕ → ℕ → ℕ
chars_before text byte = length (chars (take byte text))

-- the bytes `from` to `to` of an extent's text, as an extent of the document
abbrev pub moved : Doc → Extent → ℕ → ℕ → Extent
moved d e from to =
    record { begin = e.begin + chars_before (text_in d e) from; end = e.begin + chars_before (text_in d e) to }
