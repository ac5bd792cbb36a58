-- What a document keeps to tell its characters from its bytes, and of its tokens.
use Rattle.std.specs.Prelude.{ℕ, ◌≡◌, ◌+◌, ◌*◌, ◌/◌, ◌<◌, List, length, take, slice_index, map, chars, IsAscii, ⊤}
use Rattle.span_token.specs.Extents.{extent_of}
use Rattle.span_token.specs.Tokens.{tokens_of}
use Rattle.span_token.specs.Leads.{leads}
use Rattle.span_token.specs.declared.places.Places.{Places}
use Rattle.span_token.specs.declared.places.Places.TheVariants.{Ascii, Blocks}
use Rattle.span_token.specs.declared.tokens.Tokens.{Tokens}
use Rattle.span_token.specs.declared.tokens.Tokens.TheVariants.{Kept, Unkept}

-- the numbers of characters that begin before each block of 64 bytes
pub record AreBlockCounts (counts text : List ℕ) : Type 0 where
  pub number : length counts ≡ length text / 64 + 1
  pub each : (k : ℕ) → k < length counts → slice_index counts k ≡ leads (take (64 * k) text)

-- what is kept of a text's places: nothing where it is ASCII
abbrev pub FitsText : Places → List ℕ → Type 0
FitsText Ascii text = IsAscii text
FitsText (Blocks counts) text = AreBlockCounts counts.items text

-- what is kept of a text's tokens: all of them, or nothing
abbrev pub FitsTokens : Tokens → List ℕ → Type 0
FitsTokens (Kept spans) text = map extent_of spans.items ≡ tokens_of (chars text)
FitsTokens Unkept text = ⊤
