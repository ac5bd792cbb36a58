-- A piece is the ready bytes up to the first LF, and the rest stays.
use Rattle.corpus_json.proofs.Windows.{takes-whole, takes-too_many}
use Rattle.corpus_json.proofs.line_buffer.LineBuffer.take_piece.Goals as goal

pub returns-in-Whole : goal.returns-in-Whole
returns-in-Whole c =
    let s = c.self.inside in
    takes-whole s.bytes.items s.from s.to s.taken c.in-Whole.n s.last c.args.self.now c.args.line.now.items c.move_piece.new.line.items c.self.view_is c.self.invariant.in_order (rw (c.in-Whole.is, c.deref.ensures.value) at c.in_ok-n.ensures)

pub returns-in-TooMany : goal.returns-in-TooMany
returns-in-TooMany c =
    let s = c.self.inside in
    takes-too_many s.bytes.items s.from s.to s.taken s.last c.args.self.now c.args.line.now.items c.self.view_is (rw (c.in-TooMany.is, c.deref.ensures.value) at c.in_ok-n.ensures)
