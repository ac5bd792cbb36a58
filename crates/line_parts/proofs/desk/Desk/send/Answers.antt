use Rattle.std.proofs.Common.{refl, true}
use Rattle.line_parts.specs.TurnLaws.{came-sent, came-failed}
use Rattle.line_parts.proofs.desk.Desk.send.Goals as goal

pub returns-in-Ok-clause-goes_on : goal.returns-in-Ok-clause-goes_on
returns-in-Ok-clause-goes_on g c = λ first begin came.
    rw c.clear.ensures
    (came-sent g.W.Turn.piece first g.W.Turn.shown begin c.args.pending.now (g.O.Sink.held c.args.out.now) (g.O.Sink.held c.put_all.new.out) (g.O.Sink.faults c.args.out.now) (g.O.Sink.faults c.put_all.new.out)
    c.args.self.now.taken c.requires.unfailed c.in-Ok.ensures.bytes c.in-Ok.ensures.stands came)

pub returns-in-Err-clause-goes_on : goal.returns-in-Err-clause-goes_on
returns-in-Err-clause-goes_on g c = λ first begin came.
    let front = c.in-Err.ensures.bytes in
    came-failed g.W.Turn.piece first g.W.Turn.shown begin c.args.pending.now (g.O.Sink.held c.args.out.now) (g.O.Sink.held c.put_all.new.out) (g.O.Sink.faults c.args.out.now) (g.O.Sink.faults c.put_all.new.out) front.0
    c.args.self.now.taken (record { bytes = c.args.self.now.taken.bytes; lines = c.args.self.now.taken.lines; failed = true }) c.requires.unfailed refl refl refl front.1 c.in-Err.ensures.cause came
