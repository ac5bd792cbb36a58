-- How `SourceTokens` keeps its tokens: by the numbers of the first and of the one behind the last, and by the bytes of
-- some of the first ones: of all, or of none where the document keeps none, which only the time rests on.
use Rattle.std.specs.Prelude.{◌≤◌, ◌<◌, ◌^◌, length, slice_range}
use Rattle.span_token.specs.Documents.{characters}
use Rattle.span_token.specs.Tokens.{tokens_of}
use Rattle.span_token.specs.SourceTokens.{SomeTokens}
use Rattle.span_token.specs.Offsets.{AreOffsets}
use Rattle.span_token.specs.declared.source_tokens.SourceTokens.TheInside.{Inside}

abbrev pub tokens_seen : Inside → SomeTokens
tokens_seen s = record { doc = s.doc.now; tokens = slice_range (tokens_of (characters s.doc.now)) s.first s.past }

pub record AreKept (s : Inside) : Type 0 where
  pub ordered : s.first ≤ s.past
  pub in_list : s.past ≤ length (tokens_of (characters s.doc.now))
  pub fits : s.past < 2 ^ 32
  pub offsets : AreOffsets s.doc.now.text s.first s.offsets.now
