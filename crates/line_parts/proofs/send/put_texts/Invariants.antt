use Rattle.std.proofs.Common.{◌≡◌, take, is_some}
use Rattle.std.specs.Io.KnownBytes.{Appends}
use Rattle.line_parts.specs.Pending.{texts_of}
use Rattle.line_parts.proofs.send.put_texts.Given as goal

abbrev pub invariant-loop-text : goal.invariant-loop-text
invariant-loop-text g l = record {
  bytes : Appends (g.O.Sink.held l.initial.out) (g.O.Sink.held l.out) (texts_of (take l.text-index l.texts));
  told : is_some (g.O.Sink.held l.out) ≡ is_some (g.O.Sink.held l.initial.out);
  flushed : g.O.Sink.flushed l.out ≡ g.O.Sink.flushed l.initial.out;
  faults : g.O.Sink.faults l.out ≡ g.O.Sink.faults l.initial.out;
}
