use Rattle.std.proofs.Common.{◌≡◌, ◌≤◌, ℕ, List, Option, false}
use Rattle.line_parts.specs.Answered.{outgoing}
use Rattle.line_parts.specs.Turns.{GoesOn}
use Rattle.line_parts.proofs.desk.Desk.append_parts.Given as goal

abbrev pub invariant-loop : goal.invariant-loop
invariant-loop g l = record {
  first : l.self.first ≡ l.initial.self.first;
  unfailed : l.self.taken.failed ≡ false;
  few : l.self.taken.lines ≤ l.self.taken.bytes;
  goes_on : (first : List ℕ) (held : Option (List ℕ)) (faults : ℕ)
      → GoesOn g.W.Turn.piece first g.W.Turn.shown l.initial.self.taken (outgoing l.initial.pending held faults) l.self.taken (outgoing l.pending held faults);
}
