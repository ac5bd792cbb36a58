use Rattle.std.proofs.Common.{◌≡◌, ◌+◌, refl}
use Rattle.std.proofs.lemmas.Result.{err_from_is_err_and}
use Rattle.aqlx_top.specs.Planned.{line_by}
use Rattle.aqlx_top.specs.Windows.{meant_by}
use Rattle.aqlx_top.proofs.Turns as law
use Rattle.aqlx_top.proofs.Windowing as more
use Rattle.aqlx_top.proofs.windows.take_line.Goals as goal

pub returns-in_err-next_line-clause-turned : goal.returns-in_err-next_line-clause-turned
returns-in_err-next_line-clause-turned g c = λ plan left faults before own s.
    let piece = line_by plan in
    let p = err_from_is_err_and c.from_residual.result c.from_residual.ensures.1 in
    let going = law.going_at_err (c.next_line.new.source ≡ c.args.corpus.now) c.args.work.now.reader.last c.in_err-next_line.field-0.0 c.in_err-next_line.ensures.lasting in
    rw p.1
    (law.part_of_taken piece left (g.S.Source.left c.args.corpus.now) (g.S.Source.left c.next_line.new.source) faults (g.S.Source.faults c.args.corpus.now) (g.S.Source.faults c.next_line.new.source) before (g.O.Sink.held c.args.out.now) c.args.work.now.reader.ready c.args.work.now.reader.taken c.args.work.now.reader.last (meant_by piece c.args.work.now.pending c.args.work.now.window.items) c.args.work.now.number
    s going c.in_err-next_line.ensures.err)

pub take_given-requires-clause-line : goal.take_given-requires-clause-line
take_given-requires-clause-line g c = λ κs within.
    let next = rw c.in-Line.is at c.in_ok-next_line.ensures.answer in
    law.line_is_short (g.S.Source.left c.args.corpus.now) (g.S.Source.left c.next_line.new.source) (g.S.Source.faults c.args.corpus.now) (g.S.Source.faults c.next_line.new.source)
    c.args.work.now.reader.ready c.args.work.now.reader.taken c.args.work.now.reader.last c.next_line.new.self c.next_line.new.line.items c.requires.going next

pub returns-in-End-clause-turned : goal.returns-in-End-clause-turned
returns-in-End-clause-turned g c = λ plan left faults before own s.
    let piece = line_by plan in
    (law.ended_done piece left (g.S.Source.left c.args.corpus.now) (g.S.Source.left c.next_line.new.source) faults (g.S.Source.faults c.args.corpus.now) (g.S.Source.faults c.next_line.new.source) before (g.O.Sink.held c.args.out.now) c.args.work.now.reader c.next_line.new.self (meant_by piece c.args.work.now.pending c.args.work.now.window.items) c.next_line.new.line.items c.args.work.now.number s (rw c.in-End.is at c.in_ok-next_line.ensures.answer) c.in_ok-next_line.ensures.told, refl)

pub returns-in-Long-clause-turned : goal.returns-in-Long-clause-turned
returns-in-Long-clause-turned g c = λ plan left faults before own s.
    let piece = line_by plan in
    (law.ended_long piece left (g.S.Source.left c.args.corpus.now) (g.S.Source.left c.next_line.new.source) faults (g.S.Source.faults c.args.corpus.now) (g.S.Source.faults c.next_line.new.source) before (g.O.Sink.held c.args.out.now) c.args.work.now.reader c.next_line.new.self (meant_by piece c.args.work.now.pending c.args.work.now.window.items) c.next_line.new.line.items c.args.work.now.number (c.args.work.now.number + 1) s (rw c.in-Long.is at c.in_ok-next_line.ensures.answer) refl, refl)

pub returns-in-Failed-clause-turned : goal.returns-in-Failed-clause-turned
returns-in-Failed-clause-turned g c = λ plan left faults before own s.
    let piece = line_by plan in
    (law.ended_failed piece left (g.S.Source.left c.args.corpus.now) (g.S.Source.left c.next_line.new.source) faults (g.S.Source.faults c.args.corpus.now) (g.S.Source.faults c.next_line.new.source) before (g.O.Sink.held c.args.out.now) c.args.work.now.reader c.next_line.new.self (meant_by piece c.args.work.now.pending c.args.work.now.window.items) c.next_line.new.line.items c.args.work.now.number s (rw c.in-Failed.is at c.in_ok-next_line.ensures.answer), refl)

pub returns-in-Limit-clause-turned : goal.returns-in-Limit-clause-turned
returns-in-Limit-clause-turned g c = λ plan left faults before own s.
    let piece = line_by plan in
    (law.ended_limit piece left (g.S.Source.left c.args.corpus.now) (g.S.Source.left c.next_line.new.source) faults (g.S.Source.faults c.args.corpus.now) (g.S.Source.faults c.next_line.new.source) before (g.O.Sink.held c.args.out.now) c.args.work.now.reader c.next_line.new.self (meant_by piece c.args.work.now.pending c.args.work.now.window.items) c.next_line.new.line.items c.args.work.now.number s (rw c.in-Limit.is at c.in_ok-next_line.ensures.answer), refl)

pub returns-in-Line-clause-turned : goal.returns-in-Line-clause-turned
returns-in-Line-clause-turned g c = λ plan left faults before own s.
    let next = rw c.in-Line.is at c.in_ok-next_line.ensures.answer in
    rw c.take_given.ensures.faults
    (more.given_result (line_by plan) left (g.S.Source.left c.args.corpus.now) (g.S.Source.left c.next_line.new.source) faults (g.S.Source.faults c.args.corpus.now) (g.S.Source.faults c.next_line.new.source) before (g.O.Sink.held c.args.out.now) (g.O.Sink.faults c.args.out.now)
    c.args.work.now.reader c.args.work.now.pending c.args.work.now.window.items c.args.work.now.number _ c.take_given.new.work s c.requires.going next c.taken-taken.ensures.below refl refl refl
    (g.S.Source.looks c.next_line.new.source) (g.S.Source.left c.take_given.new.corpus) (g.O.Sink.held c.take_given.new.out) (g.O.Sink.faults c.take_given.new.out) c.take_given.result (rw own at c.take_given.ensures.given) c.take_given.ensures.err)

pub returns-in-Line-clause-counts : goal.returns-in-Line-clause-counts
returns-in-Line-clause-counts g c =
    more.rises_result (line_by c.args.work.now.plan.now) (g.S.Source.looks c.next_line.new.source) (g.S.Source.left c.next_line.new.source) (g.S.Source.left c.take_given.new.corpus) _ _ _ c.take_given.new.work c.take_given.result c.args.work.now.number c.take_given.ensures.given refl

pub returns-in-Line-clause-going : goal.returns-in-Line-clause-going
returns-in-Line-clause-going g c =
    let next = rw c.in-Line.is at c.in_ok-next_line.ensures.answer in
    more.going_result (line_by c.args.work.now.plan.now) (g.S.Source.looks c.next_line.new.source) (g.S.Source.left c.next_line.new.source) (g.S.Source.left c.take_given.new.corpus) _ _ _ c.take_given.new.work c.take_given.result c.take_given.ensures.given
    (law.goes_on (g.S.Source.left c.args.corpus.now) (g.S.Source.left c.next_line.new.source) (g.S.Source.faults c.args.corpus.now) (g.S.Source.faults c.next_line.new.source)
    c.args.work.now.reader.ready c.args.work.now.reader.taken c.args.work.now.reader.last c.next_line.new.self c.next_line.new.line.items c.requires.going next)
