-- A read that brought some bytes makes them the front of the buffer.
use Rattle.std.proofs.Common.{◌∙◌, ap, arith}
use Rattle.corpus_json.specs.Reading.{Reading}
use Rattle.corpus_json.proofs.Windows.{fills-some}
use Rattle.corpus_json.proofs.line_buffer.LineBuffer.fill.Goals as goal

pub returns-in-Ok-clause-read : goal.returns-in-Ok-clause-read
returns-in-Ok-clause-read g c =
    let s = c.self.inside in
    let room = c.read_room.new.room in
    fills-some (g.S.Source.left c.args.source.now) (g.S.Source.left c.read_room.new.source) (g.S.Source.faults c.args.source.now) (g.S.Source.faults c.read_room.new.source)
    room.items c.in-Ok.n s.taken s.last c.args.self.now
    (ap (λ (r : Reading). r.taken) c.self.view_is) (ap (λ (r : Reading). r.last) c.self.view_is ∙ c.requires.going)
    (c.in-Ok.n-test).1 (omega (arith, c.in-Ok.ensures.bound.1, room.ok.0)) (omega (arith, c.in-Ok.ensures.bound.0)) (c.in-Ok.ensures.bytes).0 c.in-Ok.ensures.cause.stands
