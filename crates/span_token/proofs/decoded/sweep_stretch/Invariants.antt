use Rattle.std.proofs.Common.{◌≡◌, ◌≤◌, ◌+◌, ◌++◌, List, length, map, take, chars}
use Rattle.span_token.specs.Extents.{Extent, extent_of}
use Rattle.span_token.specs.Offsets.{ArePairs}
use Rattle.span_token.specs.Sweeps.{IsSwept}
use Rattle.span_token.specs.TextSweeps.{IsAtPoint}
use Rattle.span_token.proofs.decoded.sweep_stretch.Given as goal

abbrev pub invariant-loop : goal.invariant-loop
invariant-loop l = record {
  room : l.count ≤ l.counter;
  spans : length l.ended ≡ 64;
  bytes : length l.bytes ≡ 64;
  point : IsAtPoint l.text l.text_sweep;
  onward : l.text_sweep.at.place ≡ l.fn.from.at.place + l.counter;
  tokens : (found : List Extent) → IsSwept (chars l.text) found l.fn.from.at.place l.fn.from.sweep.begin l.fn.from.sweep.last →
      IsSwept (chars l.text) (found ++ map extent_of (take l.count l.ended)) l.text_sweep.at.place l.text_sweep.sweep.begin l.text_sweep.sweep.last;
  pairs : ArePairs l.text (map extent_of (take l.count l.ended)) (take l.count l.bytes);
}
