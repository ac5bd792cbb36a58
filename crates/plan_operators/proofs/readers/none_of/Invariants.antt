use Rattle.std.proofs.Common.{◌≡◌, ℕ, vec_len}
use Rattle.plan_operators.specs.Readers.{number_of_readers}
use Rattle.plan_operators.proofs.readers.none_of.Given as goal

abbrev pub invariant-loop-n : goal.invariant-loop-n
invariant-loop-n l = record {
  long : vec_len l.readers ≡ l._n;
  none : (n : ℕ) → number_of_readers l.readers.items n ≡ 0;
}
