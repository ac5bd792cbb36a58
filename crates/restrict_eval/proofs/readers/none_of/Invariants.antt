use Rattle.std.proofs.Common.{◌≡◌, ℕ, vec_len}
use Rattle.std.specs.List.{Contains}
use Rattle.restrict_eval.specs.Readers.{readers_in}
use Rattle.restrict_eval.proofs.readers.none_of.Given as goal

abbrev pub invariant-loop-n : goal.invariant-loop-n
invariant-loop-n l = record {
  long : vec_len l.lists ≡ l._n;
  none : (n k : ℕ) → Contains (readers_in l.lists.items n) k → ⊥;
}
