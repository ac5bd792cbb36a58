use Rattle.std.proofs.Common.{◌≡◌, ℕ, ◌+◌, ◌<◌, ◌≤◌, ◌^◌, slice_index}
use Rattle.demo_corpus.specs.Totals.{answer_of, size_at}
use Rattle.demo_corpus.proofs.totals.add_sizes.Given as goal

abbrev pub invariant-outputs : goal.invariant-outputs
invariant-outputs l = record {
  added : (k : ℕ) → k < l.output → slice_index l.totals k ≡ slice_index l.initial.totals k + size_at (answer_of l.fn.rows) k;
  grown : (k : ℕ) → k < l.output → slice_index l.totals k < slice_index l.initial.totals k + 2 ^ 32;
  left : (k : ℕ) → l.output ≤ k → slice_index l.totals k ≡ slice_index l.initial.totals k;
}
