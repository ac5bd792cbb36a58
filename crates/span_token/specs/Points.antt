-- Where a character begins in a text, and the step to the next one.
use Rattle.std.specs.Prelude.{ℕ, ◌+◌, ◌<◌, ◌≡◌, true, false, List, ◌∷◌, length, chars, slice_index}
use Rattle.span_token.specs.Words.{is_word_char}
use Rattle.span_token.specs.Tokens.{is_word_before, tokens_from}
use Rattle.span_token.specs.Leads.{IsPlace}
use Rattle.span_token.specs.Classes.{class_of}
use Rattle.span_token.specs.declared.classes.Class.{Class}
use Rattle.span_token.specs.Extents.{Extent}
use Rattle.span_token.specs.declared.points.Point.{Point}

-- a point has the byte at which a character begins, and its place among the characters
abbrev pub IsPoint : List ℕ → Point → Type 0
IsPoint text at = IsPlace text at.place at.byte

-- one character on, past a character of that class
pub record IsStep (text : List ℕ) (at : Point) (class : Class) (next : Point) : Type 0 where
  pub there : at.place < length (chars text)
  pub class_is : class ≡ class_of (slice_index (chars text) at.place)
  pub one : next.place ≡ at.place + 1
  pub point : IsPoint text next

-- no word goes on from before character `k`
pub record IsSeam (cs : List ℕ) (k : ℕ) : Type 0 where
  pub between : k < length cs → is_word_char (slice_index cs k) ≡ true → is_word_before cs k ≡ false

-- the characters from one point to another
abbrev pub extent_between : Point → Point → Extent
extent_between begin end = record { begin = begin.place; end = end.place }

-- where the first token from a point on begins, and the point after it
pub record IsNextToken (text : List ℕ) (from begin end : Point) : Type 0 where
  pub first : tokens_from (chars text) from.place ≡ extent_between begin end ∷ tokens_from (chars text) end.place
  pub ahead : begin.place < end.place
  pub begins : IsPoint text begin
  pub point : IsPoint text end
  pub seam : IsSeam (chars text) end.place
