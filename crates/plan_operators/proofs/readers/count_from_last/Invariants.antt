use Rattle.std.proofs.Common.{◌≡◌, ◌<◌, ◌≤◌, ◌+◌, ◌*◌, ◌^◌, ℕ, List, length, vec_len}
use Rattle.plan_operators.specs.Readers.{number_of_readers, AreCountedFrom}
use Rattle.plan_operators.proofs.readers.count_from_last.Given as goal

abbrev pub invariant-nodes : goal.invariant-nodes
invariant-nodes l = record {
  long : vec_len l.readers ≡ length l.nodes;
  short : length l.nodes < 2 ^ 32;
  within : l.rest ≤ length l.nodes;
  few : (n : ℕ) → number_of_readers l.readers.items n + 2 * l.rest ≤ 1 + 2 * length l.nodes;
  counted : (outs : List ℕ) → AreCountedFrom (length l.nodes) l.nodes outs l.fn.readers.items → AreCountedFrom l.rest l.nodes outs l.readers.items;
}

abbrev pub decreases-nodes : goal.decreases-nodes
decreases-nodes l = l.rest
