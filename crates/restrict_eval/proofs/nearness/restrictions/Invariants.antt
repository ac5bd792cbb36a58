use Rattle.std.proofs.Common.{◌≡◌, ◌<◌, ℕ, None, map, vec_len}
use Rattle.std.specs.Prelude.{slice_index_or}
use Rattle.restrict_eval.specs.Nears.{IsFate}
use Rattle.restrict_eval.proofs.nearness.restrictions.Given as goal

abbrev pub invariant-loop-j : goal.invariant-loop-j
invariant-loop-j l = record {
  long : vec_len l.found ≡ l.j;
  each : (i : ℕ) → i < l.j → IsFate l.nodes (map (λ out. out.node) l.fn.outputs) i (slice_index_or l.found.items i None);
}
