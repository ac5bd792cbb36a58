use Rattle.std.proofs.Common.{◌≡◌, ◌≤◌, false, is_some}
use Rattle.line_parts.specs.Answered.{outgoing}
use Rattle.line_parts.specs.Turns.{GoesOn}
use Rattle.window_lines.proofs.pieces.Ready.lead_pieces.Given as goal

abbrev pub invariant-pieces : goal.invariant-pieces
invariant-pieces g l = record {
  tools : l.hand.tools ≡ l.initial.hand.tools;
  as_found : g.P.Pool.means l.pool ≡ g.P.Pool.means l.initial.pool;
  first : l.desk.first ≡ l.initial.desk.first;
  unfailed : l.desk.taken.failed ≡ false;
  few : l.desk.taken.lines ≤ l.desk.taken.bytes;
  told : is_some (g.O.Sink.held l.out) ≡ is_some (g.O.Sink.held l.initial.out);
  flushed : g.O.Sink.flushed l.out ≡ g.O.Sink.flushed l.initial.out;
  goes_on : GoesOn g.W.Turn.piece l.self.first.now g.W.Turn.shown l.initial.desk.taken (outgoing l.initial.pending (g.O.Sink.held l.initial.out) (g.O.Sink.faults l.initial.out))
      l.desk.taken (outgoing l.pending (g.O.Sink.held l.out) (g.O.Sink.faults l.out));
}
