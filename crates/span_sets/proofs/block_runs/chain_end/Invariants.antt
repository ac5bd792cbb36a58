use Rattle.std.proofs.Common.{ℕ, ◌+◌, ◌<◌, ◌≤◌, map}
use Rattle.span_token.specs.Extents.{extent_of, nth_extent}
use Rattle.span_sets.specs.Blocks.{IsNeighbour}
use Rattle.span_sets.proofs.block_runs.chain_end.Given as goal

abbrev pub invariant-loop-i : goal.invariant-loop-i
invariant-loop-i l = (k : ℕ) → l.from ≤ k + 1 → k + 1 < l.i → IsNeighbour l.doc l.separation.tokens l.separation.low l.separation.high (nth_extent (map extent_of l.spans) k) (nth_extent (map extent_of l.spans) (k + 1))
