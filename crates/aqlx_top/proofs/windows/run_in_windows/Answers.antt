use Rattle.std.proofs.Common.{◌≡◌, ℕ, ◌-◌, ◌≤◌, ◌<◌, ◌∙◌, refl, sym, arith}
use Rattle.corpus_json.specs.Limits.{corpus_limit}
use Rattle.aqlx_top.specs.Devices.{source_ends}
use Rattle.aqlx_top.specs.Planned.{line_by}
use Rattle.aqlx_top.specs.Windows.{meant_by}
use Rattle.aqlx_top.proofs.Turns as law
use Rattle.aqlx_top.proofs.Windowing as more
use Rattle.aqlx_top.proofs.windows.run_in_windows.Goals as goal

falls_to : (most before kept now : ℕ) → now ≤ most → kept < now → kept ≡ before → most - now < most - before
falls_to most before kept now few counts same = omega arith

pub returns-in_err-work-clause-part : goal.returns-in_err-work-clause-part
returns-in_err-work-clause-part g c =
    law.at_err _ c.from_residual.result
    (law.part_of (line_by c.args.plan.now) (g.S.Source.left c.args.corpus.now) (g.S.Source.left c.args.corpus.now) (g.S.Source.faults c.args.corpus.now) (g.S.Source.faults c.args.corpus.now) (g.O.Sink.held c.args.out.now) (g.O.Sink.held c.args.out.now) _ _ _ (law.begins (line_by c.args.plan.now) (g.S.Source.left c.args.corpus.now) (g.O.Sink.held c.args.out.now) (g.S.Source.faults c.args.corpus.now)))

pub lines-init : goal.lines-init
lines-init g c =
    let b = c.in_ok-work.ensures in
    record {
      stands = rw (b.reader, b.nothing.0, b.nothing.1, b.nothing.2) (law.begins (line_by c.args.plan.now) (g.S.Source.left c.args.corpus.now) (g.O.Sink.held c.args.out.now) (g.S.Source.faults c.args.corpus.now));
      fits = b.fits;
      below = rw b.nothing.1 b.fits.some;
      going = rw b.reader tt;
      means = refl;
      told = refl;
      unfailed = refl;
    }

pub returns-in-Err-clause-ran : goal.returns-in-Err-clause-ran
returns-in-Err-clause-ran g c = (
  law.rose_later (g.O.Sink.faults c.args.out.now) (g.O.Sink.faults c.lines.out) (g.O.Sink.faults c.send_between.new.out) c.lines.invariant.unfailed c.in-Err.ensures.cause,
  c.in-Err.ensures.sent (line_by c.args.plan.now) (g.S.Source.left c.args.corpus.now) (g.S.Source.left c.lines.corpus) (g.S.Source.faults c.args.corpus.now) (g.S.Source.faults c.lines.corpus) (g.O.Sink.held c.args.out.now) c.lines.invariant.stands,
)

pub turn_in_window-requires-clause-fits : goal.turn_in_window-requires-clause-fits
turn_in_window-requires-clause-fits g c = λ κs within.
    more.fits_own c.args.plan.now c.send_between.new.work (c.in-Ok.ensures.fits c.args.plan.now c.lines.invariant.fits)

pub turn_in_window-requires-clause-below : goal.turn_in_window-requires-clause-below
turn_in_window-requires-clause-below g c = λ κs within. rw (c.in-Ok.ensures.same.3, c.in-Ok.ensures.same.2) c.lines.invariant.below

pub turn_in_window-requires-clause-room : goal.turn_in_window-requires-clause-room
turn_in_window-requires-clause-room g c =
    let sent = c.in-Ok.ensures.sent (line_by c.args.plan.now) (g.S.Source.left c.args.corpus.now) (g.S.Source.left c.lines.corpus) (g.S.Source.faults c.args.corpus.now) (g.S.Source.faults c.lines.corpus) (g.O.Sink.held c.args.out.now) c.lines.invariant.stands in
    let few = law.number_within (line_by c.args.plan.now) (g.S.Source.left c.args.corpus.now) (g.S.Source.left c.lines.corpus) (g.S.Source.faults c.args.corpus.now) (g.S.Source.faults c.lines.corpus) (g.O.Sink.held c.args.out.now) (g.O.Sink.held c.send_between.new.out) c.send_between.new.work.reader (meant_by (line_by c.args.plan.now) c.send_between.new.work.pending c.send_between.new.work.window.items) c.send_between.new.work.number sent in
    omega arith

pub lines-smaller : goal.lines-smaller
lines-smaller g c =
    let fits = c.in-Ok.ensures.fits c.args.plan.now c.lines.invariant.fits in
    let sent = c.in-Ok.ensures.sent (line_by c.args.plan.now) (g.S.Source.left c.args.corpus.now) (g.S.Source.left c.lines.corpus) (g.S.Source.faults c.args.corpus.now) (g.S.Source.faults c.lines.corpus) (g.O.Sink.held c.args.out.now) c.lines.invariant.stands in
    let turned = c.in_ok-turn_in_window.ensures.turned c.args.plan.now (g.S.Source.left c.args.corpus.now) (g.S.Source.faults c.args.corpus.now) (g.O.Sink.held c.args.out.now) fits.plan_is sent in
    let next = (rw c.in-Next.is at turned).0 in
    let few = law.number_within (line_by c.args.plan.now) (g.S.Source.left c.args.corpus.now) (g.S.Source.left c.turn_in_window.new.corpus) (g.S.Source.faults c.args.corpus.now) (g.S.Source.faults c.turn_in_window.new.corpus) (g.O.Sink.held c.args.out.now) (g.O.Sink.held c.turn_in_window.new.out) c.turn_in_window.new.work.reader (meant_by (line_by c.args.plan.now) c.turn_in_window.new.work.pending c.turn_in_window.new.work.window.items) c.turn_in_window.new.work.number next in
    let counts = c.in_ok-turn_in_window.ensures.counts c.in-Next.is in
    falls_to corpus_limit c.lines.work.number c.send_between.new.work.number c.turn_in_window.new.work.number few counts c.in-Ok.ensures.same.1

pub lines-preserved : goal.lines-preserved
lines-preserved g c =
    let fits = c.in-Ok.ensures.fits c.args.plan.now c.lines.invariant.fits in
    let sent = c.in-Ok.ensures.sent (line_by c.args.plan.now) (g.S.Source.left c.args.corpus.now) (g.S.Source.left c.lines.corpus) (g.S.Source.faults c.args.corpus.now) (g.S.Source.faults c.lines.corpus) (g.O.Sink.held c.args.out.now) c.lines.invariant.stands in
    let turned = c.in_ok-turn_in_window.ensures.turned c.args.plan.now (g.S.Source.left c.args.corpus.now) (g.S.Source.faults c.args.corpus.now) (g.O.Sink.held c.args.out.now) fits.plan_is sent in
    record {
      stands = (rw c.in-Next.is at turned).0;
      fits = c.in_ok-turn_in_window.ensures.fits c.args.plan.now fits;
      below = c.in_ok-turn_in_window.ensures.below c.in-Next.is;
      going = c.in_ok-turn_in_window.ensures.going c.in-Next.is;
      means = c.turn_in_window.ensures.means ∙ c.lines.invariant.means;
      told = c.turn_in_window.ensures.told ∙ c.lines.invariant.told;
      unfailed = (rw c.in-Next.is at turned).1 ∙ c.in-Ok.ensures.stands ∙ c.lines.invariant.unfailed;
    }

pub returns-in_err-turn_in_window-clause-part : goal.returns-in_err-turn_in_window-clause-part
returns-in_err-turn_in_window-clause-part g c =
    let fits = c.in-Ok.ensures.fits c.args.plan.now c.lines.invariant.fits in
    let sent = c.in-Ok.ensures.sent (line_by c.args.plan.now) (g.S.Source.left c.args.corpus.now) (g.S.Source.left c.lines.corpus) (g.S.Source.faults c.args.corpus.now) (g.S.Source.faults c.lines.corpus) (g.O.Sink.held c.args.out.now) c.lines.invariant.stands in
    let turned = c.in_err-turn_in_window.ensures.turned c.args.plan.now (g.S.Source.left c.args.corpus.now) (g.S.Source.faults c.args.corpus.now) (g.O.Sink.held c.args.out.now) fits.plan_is sent in
    law.at_err _ c.from_residual-in_err-turn_in_window.result turned

pub returns-in-Ended-clause-ran : goal.returns-in-Ended-clause-ran
returns-in-Ended-clause-ran g c =
    let fits = c.in-Ok.ensures.fits c.args.plan.now c.lines.invariant.fits in
    let sent = c.in-Ok.ensures.sent (line_by c.args.plan.now) (g.S.Source.left c.args.corpus.now) (g.S.Source.left c.lines.corpus) (g.S.Source.faults c.args.corpus.now) (g.S.Source.faults c.lines.corpus) (g.O.Sink.held c.args.out.now) c.lines.invariant.stands in
    let turned = c.in_ok-turn_in_window.ensures.turned c.args.plan.now (g.S.Source.left c.args.corpus.now) (g.S.Source.faults c.args.corpus.now) (g.O.Sink.held c.args.out.now) fits.plan_is sent in
    let own = rw c.in-Ended.is at turned in
    let empty = c.in_ok-turn_in_window.ensures.ended (λ e. let other = sym c.in-Ended.is ∙ e in absurd (cc)) in
    let ended = more.finished_with (line_by c.args.plan.now) (source_ends (g.S.Source.left c.args.corpus.now) (g.S.Source.left c.turn_in_window.new.corpus) (g.S.Source.faults c.args.corpus.now) (g.S.Source.faults c.turn_in_window.new.corpus)) (g.O.Sink.held c.args.out.now) (g.O.Sink.held c.turn_in_window.new.out) (meant_by (line_by c.args.plan.now) c.turn_in_window.new.work.pending c.turn_in_window.new.work.window.items) c.turn_in_window.new.work.pending c.in-Ended.status
    (more.meant_alone (line_by c.args.plan.now) c.turn_in_window.new.work.pending c.turn_in_window.new.work.window.items empty) own.0 in
    c.finish_all.ensures (line_by c.args.plan.now) (source_ends (g.S.Source.left c.args.corpus.now) (g.S.Source.left c.turn_in_window.new.corpus) (g.S.Source.faults c.args.corpus.now) (g.S.Source.faults c.turn_in_window.new.corpus)) (g.O.Sink.held c.args.out.now) (g.O.Sink.flushed c.args.out.now) (g.O.Sink.faults c.args.out.now) (own.1 ∙ c.in-Ok.ensures.stands ∙ c.lines.invariant.unfailed) ended

pub returns-in-Unwritten-clause-ran : goal.returns-in-Unwritten-clause-ran
returns-in-Unwritten-clause-ran g c =
    let fits = c.in-Ok.ensures.fits c.args.plan.now c.lines.invariant.fits in
    let sent = c.in-Ok.ensures.sent (line_by c.args.plan.now) (g.S.Source.left c.args.corpus.now) (g.S.Source.left c.lines.corpus) (g.S.Source.faults c.args.corpus.now) (g.S.Source.faults c.lines.corpus) (g.O.Sink.held c.args.out.now) c.lines.invariant.stands in
    let turned = c.in_ok-turn_in_window.ensures.turned c.args.plan.now (g.S.Source.left c.args.corpus.now) (g.S.Source.faults c.args.corpus.now) (g.O.Sink.held c.args.out.now) fits.plan_is sent in
    let own = rw c.in-Unwritten.is at turned in
    (law.rose_later (g.O.Sink.faults c.args.out.now) (g.O.Sink.faults c.send_between.new.out) (g.O.Sink.faults c.turn_in_window.new.out) (c.in-Ok.ensures.stands ∙ c.lines.invariant.unfailed) own.1, own.0)
