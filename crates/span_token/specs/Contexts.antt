-- The spans to the left and to the right of a span.
use Rattle.std.specs.Prelude.{ℕ, ◌+◌, ◌-◌, ◌≤◌, ◌≡◌, min, nat_le, ℤ, pos, negsuc, List, [], ◌∷◌, length, take, drop, slice_range}
use Rattle.std.specs.List.{filter}
use Rattle.span_token.specs.Relations.{does_contain}
use Rattle.span_token.specs.Extents.{Extent}

-- as many as `n`, and none where it is below 0
abbrev pub how_many : ℤ → ℕ
how_many (pos n) = n
how_many (negsuc n) = 0

-- the characters before a span, at most `n` of them
abbrev pub left_of : Extent → ℤ → Extent
left_of s n = record { begin = s.begin - how_many n; end = s.begin }

-- the characters after a span, at most `n` of them, in a text of `len` characters
abbrev pub right_of : ℕ → Extent → ℤ → Extent
right_of len s n = record { begin = s.end; end = min len (s.end + how_many n) }

-- the tokens that end at or before a place
abbrev pub ended_by : List Extent → ℕ → List Extent
ended_by tokens place = filter (λ t. nat_le t.end place) tokens

-- the tokens that begin at or after a place
abbrev pub begun_from : List Extent → ℕ → List Extent
begun_from tokens place = filter (λ t. nat_le place t.begin) tokens

-- the begin of the first of some tokens, or `place` where there is none
abbrev pub first_begin : ℕ → List Extent → ℕ
first_begin place [] = place
first_begin place (t ∷ ts) = t.begin

-- the end of the last of some tokens, or `place` where there is none
abbrev pub last_end : ℕ → List Extent → ℕ
last_end place [] = place
last_end place (t ∷ ts) = last_end t.end ts

-- from the begin of the `n`-th last token before a span, or of the first one where there are fewer
abbrev pub left_of_tok : List Extent → Extent → ℤ → Extent
left_of_tok tokens s n = record {
  begin = first_begin s.begin (drop (length (ended_by tokens s.begin) - how_many n) (ended_by tokens s.begin));
  end = s.begin;
}

-- to the end of the `n`-th token after a span, or of the last one where there are fewer
abbrev pub right_of_tok : List Extent → Extent → ℤ → Extent
right_of_tok tokens s n = record {
  begin = s.end;
  end = last_end s.end (take (how_many n) (begun_from tokens s.end));
}

-- `first` to `past` are the numbers of the tokens that lie wholly in a span
pub record AreWithin (tokens : List Extent) (s : Extent) (first past : ℕ) : Type 0 where
  pub ordered : first ≤ past
  pub in_list : past ≤ length tokens
  pub tokens_are : slice_range tokens first past ≡ filter (does_contain s) tokens
