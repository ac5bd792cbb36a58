use Rattle.std.proofs.Common.{◌≤◌, ◌+◌, ◌++◌, List, map, take}
use Rattle.span_token.specs.Extents.{Extent, extent_of}
use Rattle.span_token.specs.Sweeps.{IsSwept}
use Rattle.span_token.proofs.ascii.sweep_stretch.Given as goal

abbrev pub invariant-loop-at : goal.invariant-loop-at
invariant-loop-at l = record {
  room : l.count + l.fn.from ≤ l.at;
  begun : l.sweep.begin ≤ l.at;
  tokens : (found : List Extent) → IsSwept l.bytes found l.from l.fn.sweep.begin l.fn.sweep.last →
      IsSwept l.bytes (found ++ map extent_of (take l.count l.ended)) l.at l.sweep.begin l.sweep.last;
}
