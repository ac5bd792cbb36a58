use Rattle.std.proofs.Common.{◌≡◌, ℕ, None, vec_len}
use Rattle.std.specs.Prelude.{slice_index_or}
use Rattle.plan_operators.proofs.board.empty_board.Given as goal

abbrev pub invariant-loop-n : goal.invariant-loop-n
invariant-loop-n l = record {
  long : vec_len l.board ≡ l._n;
  none : (n : ℕ) → slice_index_or l.board.items n None ≡ None;
}
