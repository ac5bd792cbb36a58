use Rattle.std.proofs.Common.{◌≡◌, ℕ, false, vec_len}
use Rattle.restrict_eval.specs.Readers.{is_shown}
use Rattle.restrict_eval.proofs.readers.shown_of.Given as goal

abbrev pub invariant-loop-n : goal.invariant-loop-n
invariant-loop-n l = record {
  long : vec_len l.shown ≡ l._n;
  none : (n : ℕ) → is_shown l.shown.items n ≡ false;
}
