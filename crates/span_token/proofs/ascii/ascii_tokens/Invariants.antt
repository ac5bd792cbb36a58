use Rattle.std.proofs.Common.{◌≤◌, ◌-◌, length, map}
use Rattle.span_token.specs.Extents.{extent_of}
use Rattle.span_token.specs.Sweeps.{IsSwept}
use Rattle.span_token.proofs.ascii.ascii_tokens.Given as goal

abbrev pub invariant-loop-at : goal.invariant-loop-at
invariant-loop-at l = record {
  within : l.at ≤ length l.bytes;
  begun : l.sweep.begin ≤ l.at;
  tokens : IsSwept l.bytes (map extent_of l.spans.items) l.at l.sweep.begin l.sweep.last;
}

abbrev pub decreases-loop-at : goal.decreases-loop-at
decreases-loop-at l = length l.bytes - l.at
