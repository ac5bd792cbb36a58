-- Each answer of a call, from what its pieces and reads did.
use Rattle.std.proofs.Common.{◌≡◌, None, sym, ap, ◌∙◌, arith}
use Rattle.corpus_json.specs.Reading.{Reading}
use Rattle.corpus_json.proofs.Givens.{given-next}
use Rattle.corpus_json.proofs.UnderWay.{gives_piece, goes_on, brings, gives_last, empty_at_true, some_at_false}
use Rattle.corpus_json.proofs.line_buffer.LineBuffer.next_line.Goals as goal

pub returns-in-Some-2-clause-answer : goal.returns-in-Some-2-clause-answer
returns-in-Some-2-clause-answer g c =
    let going : c.args.self.now.last ≡ None = ap (λ (r : Reading). r.last) (sym c.self.view_is) ∙ c.in_default.is in
    gives_piece (g.S.Source.left c.args.source.now) (g.S.Source.faults c.args.source.now) c.args.self.now going
    (g.S.Source.left c.pieces.source) (g.S.Source.faults c.pieces.source) c.pieces.self c.pieces.line.items c.pieces.invariant.way
    c.take_piece.new.self c.take_piece.new.line.items c.in-Some-2.step (rw c.in-Some-2.is at c.in_ok-step.ensures)

pub returns-in-Some-fill-clause-answer : goal.returns-in-Some-fill-clause-answer
returns-in-Some-fill-clause-answer g c =
    let going : c.args.self.now.last ≡ None = ap (λ (r : Reading). r.last) (sym c.self.view_is) ∙ c.in_default.is in
    let left = g.S.Source.left in
    let faults = g.S.Source.faults in
    let took = rw c.in_default-2.is at c.in_ok-step.ensures in
    let way = goes_on (left c.args.source.now) (faults c.args.source.now) c.args.self.now going
    (left c.pieces.source) (faults c.pieces.source) c.pieces.self c.pieces.line.items c.pieces.invariant.way
    c.take_piece.new.self c.take_piece.new.line.items took in
    rw c.last_step.ensures
    (gives_last (left c.args.source.now) (faults c.args.source.now) c.args.self.now going
    (left c.pieces.source) (faults c.pieces.source) c.take_piece.new.self c.take_piece.new.line.items way
    (left c.fill.new.source) (faults c.fill.new.source) c.fill.new.self (ap (λ (r : Reading). r.ready) took.same)
    c.in-Some-fill.step c.is_empty.result
    (empty_at_true c.take_piece.new.line.items _ c.is_empty.result (c.take_piece.new.line.ok).0 c.is_empty.ensures)
    (some_at_false c.take_piece.new.line.items _ c.is_empty.result (c.take_piece.new.line.ok).0 c.is_empty.ensures)
    c.in-Some-fill.ensures.read)

pub returns-in-Some-2-clause-given : goal.returns-in-Some-2-clause-given
returns-in-Some-2-clause-given g c left_first faults_first lines given =
    let left = g.S.Source.left in
    let faults = g.S.Source.faults in
    given-next left_first (left c.args.source.now) (left c.pieces.source) faults_first (faults c.args.source.now) (faults c.pieces.source) c.args.self.now
    c.take_piece.new.self lines c.take_piece.new.line.items c.in-Some-2.step
    c.pieces.invariant.told (omega (arith, c.pieces.invariant.way.stands)) given (returns-in-Some-2-clause-answer g c)

pub returns-in-Some-fill-clause-given : goal.returns-in-Some-fill-clause-given
returns-in-Some-fill-clause-given g c left_first faults_first lines given =
    let left = g.S.Source.left in
    let faults = g.S.Source.faults in
    given-next left_first (left c.args.source.now) (left c.fill.new.source) faults_first (faults c.args.source.now) (faults c.fill.new.source) c.args.self.now
    c.fill.new.self lines c.take_piece.new.line.items c.last_step.result
    (c.fill.ensures.told ∙ c.pieces.invariant.told)
    (omega (arith, c.pieces.invariant.way.stands, c.in-Some-fill.ensures.read.later))
    given (returns-in-Some-fill-clause-answer g c)

pub pieces-preserved : goal.pieces-preserved
pieces-preserved g c =
    let going : c.args.self.now.last ≡ None = ap (λ (r : Reading). r.last) (sym c.self.view_is) ∙ c.in_default.is in
    let left = g.S.Source.left in
    let faults = g.S.Source.faults in
    let took = rw c.in_default-2.is at c.in_ok-step.ensures in
    let way = goes_on (left c.args.source.now) (faults c.args.source.now) c.args.self.now going
    (left c.pieces.source) (faults c.pieces.source) c.pieces.self c.pieces.line.items c.pieces.invariant.way
    c.take_piece.new.self c.take_piece.new.line.items took in
    record {
      way = brings (left c.args.source.now) (faults c.args.source.now) c.args.self.now going
          (left c.pieces.source) (faults c.pieces.source) c.take_piece.new.self c.take_piece.new.line.items way
          (left c.fill.new.source) (faults c.fill.new.source) c.fill.new.self (ap (λ (r : Reading). r.ready) took.same)
          c.in_default-fill.ensures.read;
      told = c.fill.ensures.told ∙ c.pieces.invariant.told;
    }
