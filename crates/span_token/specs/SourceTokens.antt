-- The tokens of a part of a document, by their numbers in it.
use Rattle.std.specs.Prelude.{ℕ, ◌<◌, ◌≤◌, List, length}
use Rattle.std.specs.List.{filter}
use Rattle.span_token.specs.Documents.{Doc, characters}
use Rattle.span_token.specs.Extents.{Extent, nth_extent}
use Rattle.span_token.specs.Relations.{ContainsExtent, does_contain}
use Rattle.span_token.specs.Tokens.{tokens_of}

-- the tokens wholly in an extent
abbrev pub tokens_in : Doc → Extent → List Extent
tokens_in d source = filter (does_contain source) (tokens_of (characters d))

-- from the begin of a token to the end of another
abbrev pub run_extent : List Extent → ℕ → ℕ → Extent
run_extent tokens first last = record { begin = (nth_extent tokens first).begin; end = (nth_extent tokens last).end }

-- tokens that aren't empty, each of which ends at or before the begin of the next ones
pub record InTextOrder (tokens : List Extent) : Type 0 where
  pub filled : (i : ℕ) → i < length tokens → (nth_extent tokens i).begin < (nth_extent tokens i).end
  pub apart : (i j : ℕ) → i < j → j < length tokens → (nth_extent tokens i).end ≤ (nth_extent tokens j).begin

-- tokens that lie in an extent
abbrev pub HoldsTokens : Extent → List Extent → Type 0
HoldsTokens e tokens = (i : ℕ) → i < length tokens → ContainsExtent e (nth_extent tokens i)

-- some tokens of a document
pub record SomeTokens : Type 0 where
  pub doc : Doc
  pub tokens : List Extent
