use Rattle.std.proofs.Common.{ℕ, ◌+◌, ◌<◌, ◌≤◌, map, length, All}
use Rattle.span_token.specs.Documents.{LiesIn}
use Rattle.span_token.specs.Extents.{extent_of, nth_extent}
use Rattle.span_sets.specs.Blocks.{IsNeighbour}
use Rattle.span_sets.specs.LawProofs.BlockLists.{HasRuns}
use Rattle.span_sets.proofs.block_runs.runs.Given as goal

abbrev pub invariant-loop-i : goal.invariant-loop-i
invariant-loop-i l = record {
  has : HasRuns (IsNeighbour l.doc l.separation.tokens l.separation.low l.separation.high) l.low l.high (map extent_of l.spans) l.i (map extent_of l.found.items);
  in_document : All (λ s. LiesIn (extent_of s) l.doc) l.found.items;
  within : l.end ≤ length l.spans;
  chained : (k : ℕ) → l.i ≤ k → k + 1 < l.end → IsNeighbour l.doc l.separation.tokens l.separation.low l.separation.high (nth_extent (map extent_of l.spans) k) (nth_extent (map extent_of l.spans) (k + 1));
}
