use Rattle.std.proofs.Common.{◌-◌, length, map, chars}
use Rattle.span_token.specs.Extents.{extent_of}
use Rattle.span_token.specs.Offsets.{ArePairs}
use Rattle.span_token.specs.Sweeps.{IsSwept}
use Rattle.span_token.specs.TextSweeps.{IsAtPoint}
use Rattle.span_token.proofs.decoded.decoded_tokens.Given as goal

abbrev pub invariant-loop-offsets : goal.invariant-loop-offsets
invariant-loop-offsets l = record {
  point : IsAtPoint l.text l.text_sweep;
  tokens : IsSwept (chars l.text) (map extent_of l.spans.items) l.text_sweep.at.place l.text_sweep.sweep.begin l.text_sweep.sweep.last;
  pairs : ArePairs l.text (map extent_of l.spans.items) l.offsets.items;
}

abbrev pub decreases-loop-offsets : goal.decreases-loop-offsets
decreases-loop-offsets l = length (chars l.text) - l.text_sweep.at.place
