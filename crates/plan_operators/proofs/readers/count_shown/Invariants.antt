use Rattle.std.proofs.Common.{◌≡◌, ◌≤◌, ℕ, All, take, vec_len}
use Rattle.plan_operators.specs.Readers.{number_of_readers}
use Rattle.plan_operators.proofs.readers.count_shown.Given as goal

abbrev pub invariant-loop-out : goal.invariant-loop-out
invariant-loop-out l = record {
  long : vec_len l.readers ≡ vec_len l.fn.readers;
  shown : All (λ out. number_of_readers l.readers.items out.node ≡ 1) (take l.out-index l.outputs);
  few : (n : ℕ) → number_of_readers l.readers.items n ≤ 1;
}
