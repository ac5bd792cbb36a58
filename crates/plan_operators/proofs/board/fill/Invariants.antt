use Rattle.std.proofs.Common.{◌≡◌, ◌+◌, ◌*◌, ℕ, All, None, true, length}
use Rattle.std.specs.Prelude.{slice_index_or, Contains, IsSome}
use Rattle.plan_operators.specs.Filling.{IsNeededNode, IsStanding, shown_by}
use Rattle.plan_operators.specs.Readers.{number_waiting, waits}
use Rattle.plan_operators.proofs.board.fill.Given as goal

abbrev pub invariant-asked : goal.invariant-asked
invariant-asked l = record {
  stands : IsStanding l.doc l.plan l.board.items l.readers.items;
  waiting : slice_index_or l.board.items l.n None ≡ None → waits l.board.items l.readers.items l.next ≡ true;
  needed : IsNeededNode l.doc l.plan l.next;
  asking : All (IsNeededNode l.doc l.plan) l.asking.items;
  kept : (m : ℕ) → Contains (shown_by l.plan) m → IsSome (slice_index_or l.fn.board.items m None) → IsSome (slice_index_or l.board.items m None);
  same : l.tools ≡ l.fn.tools;
}

abbrev pub decreases-asked : goal.decreases-asked
decreases-asked l = number_waiting l.plan.nodes l.board.items l.readers.items * length l.plan.nodes + l.next
