use Rattle.std.proofs.Common.{◌≡◌, ◌-◌, ◌≤◌, length, take, is_some}
use Rattle.std.specs.Io.KnownBytes.{Appends}
use Rattle.line_parts.proofs.send.put.Given as goal

abbrev pub invariant-loop-written : goal.invariant-loop-written
invariant-loop-written g l =
    (l.written ≤ length l.piece)
    × Appends (g.O.Sink.held l.initial.out) (g.O.Sink.held l.out) (take l.written l.piece)
    × (is_some (g.O.Sink.held l.out) ≡ is_some (g.O.Sink.held l.initial.out))
    × (g.O.Sink.flushed l.out ≡ g.O.Sink.flushed l.initial.out)
    × (g.O.Sink.faults l.out ≡ g.O.Sink.faults l.initial.out)

abbrev pub decreases-loop-written : goal.decreases-loop-written
decreases-loop-written g l = length l.piece - l.written
