use Rattle.std.proofs.Common.{◌≡◌, ◌-◌, ◌++◌, ◌≤◌, map}
use Rattle.std.specs.List.{range_with_len}
use Rattle.span_token.specs.Extents.{extent_of}
use Rattle.span_token.specs.SourceTokens.{run_extent}
use Rattle.span_sets.proofs.block_runs.push_blocks.Given as goal

abbrev pub invariant-loop-j : goal.invariant-loop-j
invariant-loop-j l = record {
  pushed : map extent_of l.found.items ≡ map extent_of l.initial.found.items ++ map (run_extent (map extent_of l.spans) l.first) (range_with_len l.from (l.j - l.from));
  none : l.to ≤ l.from → l.j ≡ l.from;
}
