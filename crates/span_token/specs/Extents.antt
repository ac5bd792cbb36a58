-- Spans as definitions see them: two numbers of characters, from 0, half-open.
use Rattle.std.specs.Prelude.{ℕ, List, slice_index_or}
use Rattle.span_token.specs.declared.span.Span.{Span}

-- the characters from `begin` up to but not including `end`
pub record Extent : Type 0 where
  pub begin : ℕ
  pub end : ℕ

abbrev pub extent_of : Span → Extent
extent_of s = record { begin = s.begin; end = s.end }

-- extent number `i` of a list, from 0
abbrev pub nth_extent : List Extent → ℕ → Extent
nth_extent extents i = slice_index_or extents i (record { begin = 0; end = 0 })
