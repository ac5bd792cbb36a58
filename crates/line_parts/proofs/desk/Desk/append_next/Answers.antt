use Rattle.std.proofs.Common.{◌+◌, ap, false, refl}
use Rattle.line_parts.specs.declared.desk.Answered.{Answered}
use Rattle.line_parts.specs.TurnLaws.{came-longer}
use Rattle.line_parts.proofs.desk.Desk.append_next.Goals as goal

pub returns-clause-goes_on : goal.returns-clause-goes_on
returns-clause-goes_on g c = λ first held faults begin came.
    let part = c.in-Some.part in
    came-longer g.W.Turn.piece first g.W.Turn.shown begin c.args.pending.now c.take_text.new.self held faults c.args.self.now.taken
    (record { bytes = part.to; lines = c.take_next.new.self.taken.lines + part.count; failed = false }) part
    c.requires.unfailed refl c.in-Some.ensures.next.0 refl (ap (λ (t : Answered). t.lines + part.count) c.take_next.ensures.taken) c.in_ok-take_text.ensures.put c.in-Some.ensures.next.1 came
