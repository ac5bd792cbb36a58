use Rattle.std.proofs.Common.{Ok, ◌∙◌}
use Rattle.std.proofs.lemmas.Result.{err_from_is_err_and}
use Rattle.aqlx_top.specs.Devices.{source_ends}
use Rattle.aqlx_top.specs.Planned.{line_by}
use Rattle.aqlx_top.specs.Windows.{meant_by, sink_turn}
use Rattle.aqlx_top.proofs.Windowing as more
use Rattle.aqlx_top.proofs.windows.turn_in_window.Goals as goal

pub returns-in_err-turn-clause-turned : goal.returns-in_err-turn-clause-turned
returns-in_err-turn-clause-turned g c = λ plan left faults before own s.
    let p = err_from_is_err_and c.from_residual.result c.from_residual.ensures.1 in
    rw p.1 (c.in_err-turn.ensures.turned plan left faults before own s)

pub evaluate_window-requires-clause-fits : goal.evaluate_window-requires-clause-fits
evaluate_window-requires-clause-fits g c = λ κs within.
    more.fits_own c.args.work.now.plan.now c.take_line.new.work (c.in_ok-turn.ensures.fits c.args.work.now.plan.now c.requires.fits)

pub returns-in_err-evaluate_window-clause-turned : goal.returns-in_err-evaluate_window-clause-turned
returns-in_err-evaluate_window-clause-turned g c = λ plan left faults before own s.
    let p = err_from_is_err_and c.from_residual-in_err-evaluate_window.result c.from_residual-in_err-evaluate_window.ensures.1 in
    rw p.1
    (more.turned_unsent (line_by plan) left (g.S.Source.left c.take_line.new.corpus) faults (g.S.Source.faults c.take_line.new.corpus) before (sink_turn (g.O.Sink.held c.take_line.new.out) (g.O.Sink.faults c.args.out.now) (g.O.Sink.faults c.take_line.new.out)) c.take_line.new.work.reader (meant_by (line_by plan) c.take_line.new.work.pending c.take_line.new.work.window.items) c.take_line.new.work.number c.in_ok-turn.turn
    (c.in_ok-turn.ensures.turned plan left faults before own s))

pub returns-in_ok-evaluate_window-clause-turned : goal.returns-in_ok-evaluate_window-clause-turned
returns-in_ok-evaluate_window-clause-turned g c = λ plan left faults before own s.
    let fits = c.in_ok-turn.ensures.fits c.args.work.now.plan.now c.requires.fits in
    more.turned_with (line_by plan) (source_ends left (g.S.Source.left c.take_line.new.corpus) faults (g.S.Source.faults c.take_line.new.corpus)) before (sink_turn (g.O.Sink.held c.take_line.new.out) (g.O.Sink.faults c.args.out.now) (g.O.Sink.faults c.take_line.new.out)) c.take_line.new.work.reader c.evaluate_window.new.work.reader (meant_by (line_by plan) c.take_line.new.work.pending c.take_line.new.work.window.items) (meant_by (line_by plan) c.evaluate_window.new.work.pending c.evaluate_window.new.work.window.items) c.take_line.new.work.number c.evaluate_window.new.work.number (Ok c.in_ok-turn.turn)
    c.in_ok-evaluate_window.ensures.same.0
    (more.meant_evaluated plan c.take_line.new.work.plan.now c.take_line.new.work.pending c.evaluate_window.new.work.pending c.take_line.new.work.window.items c.evaluate_window.new.work.window.items (fits.plan_is ∙ own) c.in_ok-evaluate_window.ensures.meant c.in_ok-evaluate_window.ensures.empty)
    c.in_ok-evaluate_window.ensures.same.1
    (c.in_ok-turn.ensures.turned plan left faults before own s)

pub returns-else-is_due-clause-turned : goal.returns-else-is_due-clause-turned
returns-else-is_due-clause-turned g c = λ plan left faults before own s. c.in_ok-turn.ensures.turned plan left faults before own s

pub returns-in_ok-evaluate_window-clause-below : goal.returns-in_ok-evaluate_window-clause-below
returns-in_ok-evaluate_window-clause-below g c = λ e.
    let fits = c.in_ok-evaluate_window.ensures.fits c.args.work.now.plan.now (c.in_ok-turn.ensures.fits c.args.work.now.plan.now c.requires.fits) in
    rw c.in_ok-evaluate_window.ensures.empty fits.some

pub returns-in_ok-evaluate_window-clause-fits : goal.returns-in_ok-evaluate_window-clause-fits
returns-in_ok-evaluate_window-clause-fits g c = λ plan fits. c.in_ok-evaluate_window.ensures.fits plan (c.in_ok-turn.ensures.fits plan fits)

pub returns-else-is_due-clause-ended : goal.returns-else-is_due-clause-ended
returns-else-is_due-clause-ended g c = λ other. absurd (other (c.is_due.ensures.goes_on c.if-is_due.false))
