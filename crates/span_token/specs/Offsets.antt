-- Where the tokens of a text stand among its bytes.
use Rattle.std.specs.Prelude.{ℕ, ◌≡◌, ◌+◌, ◌<◌, List, length, slice_index_or, chars}
use Rattle.span_token.specs.Extents.{Extent, nth_extent}
use Rattle.span_token.specs.Leads.{IsPlace}
use Rattle.span_token.specs.Tokens.{tokens_of}
use Rattle.span_token.specs.declared.offsets.TokenBytes.{TokenBytes}

-- the bytes at which the characters of a token begin and end
pub record AreBytesOf (text : List ℕ) (token : Extent) (bytes : TokenBytes) : Type 0 where
  pub begins : IsPlace text token.begin bytes.begin
  pub ends : IsPlace text token.end bytes.end

-- those of the `k`-th token that is kept
abbrev pub nth_bytes : List TokenBytes → ℕ → TokenBytes
nth_bytes offsets k = slice_index_or offsets k (record { begin = 0; end = 0 })

-- there are as many as tokens, and the `k`-th are the bytes of the `k`-th token
pub record ArePairs (text : List ℕ) (tokens : List Extent) (offsets : List TokenBytes) : Type 0 where
  pub number : length offsets ≡ length tokens
  pub each : (k : ℕ) → k < length offsets → AreBytesOf text (nth_extent tokens k) (nth_bytes offsets k)

-- however many there are, the `k`-th are the bytes of token number `first + k` of a text
abbrev pub AreOffsets : List ℕ → ℕ → List TokenBytes → Type 0
AreOffsets text first offsets = (k : ℕ) → k < length offsets → AreBytesOf text (nth_extent (tokens_of (chars text)) (first + k)) (nth_bytes offsets k)
