use Rattle.std.proofs.Common.{◌≡◌, ℕ, ◌<◌, ◌↔◌, true, false, length, get_or, IsTrue}
use Rattle.span_sets.specs.Candidates.{IsNew, IsUncovered}
use Rattle.span_sets.specs.LawProofs.Sweeps.{IsReached}
use Rattle.span_sets.proofs.containment.by_containment.Given as goal

abbrev pub invariant-loop-i : goal.invariant-loop-i
invariant-loop-i l = record {
  number : length l.answers.items ≡ l.i;
  answered : (k : ℕ) → k < l.i → (get_or l.answers.items k false ≡ true) ↔ ((IsTrue l.new → IsNew l.sorted k) × (IsTrue l.uncovered → IsUncovered l.sorted k));
  reached : IsReached l.sorted l.i l.past l.is_uncovered;
}
