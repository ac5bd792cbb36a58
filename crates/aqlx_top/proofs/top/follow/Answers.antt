use Rattle.std.proofs.Common.{ap, refl}
use Rattle.aqlx_top.specs.Devices.{files_ends, source_ends, sink_ends}
use Rattle.aqlx_top.specs.Handing.{pool_ends}
use Rattle.aqlx_top.specs.Orders.{order_told}
use Rattle.aqlx_top.specs.Words.{to_check, to_plan}
use Rattle.aqlx_top.proofs.FileRuns.{run_cause, run_front}
use Rattle.aqlx_top.proofs.Following as law
use Rattle.aqlx_top.proofs.top.follow.Goals as goal

pub returns-in-Run-clause-cause : goal.returns-in-Run-clause-cause
returns-in-Run-clause-cause g c =
    rw c.in-Run.is
    (run_cause c.in-Run.name.now (files_ends (g.F.Files.told c.args.files.now) (g.F.Files.faults c.args.files.now) (g.F.Files.faults c.run_file.new.files)) (pool_ends (g.P.Pool.means c.args.pool.now) (g.P.Pool.told c.args.pool.now) (g.P.Pool.told c.run_file.new.pool)) (source_ends (g.S.Source.left c.args.corpus.now) (g.S.Source.left c.run_file.new.corpus) (g.S.Source.faults c.args.corpus.now) (g.S.Source.faults c.run_file.new.corpus)) (sink_ends (g.O.Sink.held c.args.out.now) (g.O.Sink.held c.run_file.new.out) (g.O.Sink.flushed c.args.out.now) (g.O.Sink.flushed c.run_file.new.out) (g.O.Sink.faults c.args.out.now) (g.O.Sink.faults c.run_file.new.out)) c.run_file.result c.run_file.ensures.ran)

pub returns-in-Run-clause-front : goal.returns-in-Run-clause-front
returns-in-Run-clause-front g c =
    rw c.in-Run.is
    (run_front c.in-Run.name.now (files_ends (g.F.Files.told c.args.files.now) (g.F.Files.faults c.args.files.now) (g.F.Files.faults c.run_file.new.files)) (pool_ends (g.P.Pool.means c.args.pool.now) (g.P.Pool.told c.args.pool.now) (g.P.Pool.told c.run_file.new.pool)) (source_ends (g.S.Source.left c.args.corpus.now) (g.S.Source.left c.run_file.new.corpus) (g.S.Source.faults c.args.corpus.now) (g.S.Source.faults c.run_file.new.corpus)) (sink_ends (g.O.Sink.held c.args.out.now) (g.O.Sink.held c.run_file.new.out) (g.O.Sink.flushed c.args.out.now) (g.O.Sink.flushed c.run_file.new.out) (g.O.Sink.faults c.args.out.now) (g.O.Sink.faults c.run_file.new.out)) c.run_file.result c.run_file.ensures.part)

pub returns-in-Run-clause-unread : goal.returns-in-Run-clause-unread
returns-in-Run-clause-unread g c = λ none. absurd (none c.in-Run.name.now (ap order_told c.in-Run.is))

pub returns-in-Check-clause-cause : goal.returns-in-Check-clause-cause
returns-in-Check-clause-cause g c =
    rw c.in-Check.is
    (law.check_cause (files_ends (g.F.Files.told c.args.files.now) (g.F.Files.faults c.args.files.now) (g.F.Files.faults c.show_file.new.files)) (pool_ends (g.P.Pool.means c.args.pool.now) (g.P.Pool.told c.args.pool.now) (g.P.Pool.told c.args.pool.now)) (source_ends (g.S.Source.left c.args.corpus.now) (g.S.Source.left c.args.corpus.now) (g.S.Source.faults c.args.corpus.now) (g.S.Source.faults c.args.corpus.now)) (sink_ends (g.O.Sink.held c.args.out.now) (g.O.Sink.held c.show_file.new.out) (g.O.Sink.flushed c.args.out.now) (g.O.Sink.flushed c.show_file.new.out) (g.O.Sink.faults c.args.out.now) (g.O.Sink.faults c.show_file.new.out)) (record { left = refl; faults = refl }) c.in-Check.name.now c.show_file.result refl c.show_file.ensures.shown)

pub returns-in-Check-clause-front : goal.returns-in-Check-clause-front
returns-in-Check-clause-front g c =
    rw c.in-Check.is
    (law.untouched_front (files_ends (g.F.Files.told c.args.files.now) (g.F.Files.faults c.args.files.now) (g.F.Files.faults c.show_file.new.files)) (pool_ends (g.P.Pool.means c.args.pool.now) (g.P.Pool.told c.args.pool.now) (g.P.Pool.told c.args.pool.now)) (source_ends (g.S.Source.left c.args.corpus.now) (g.S.Source.left c.args.corpus.now) (g.S.Source.faults c.args.corpus.now) (g.S.Source.faults c.args.corpus.now)) (sink_ends (g.O.Sink.held c.args.out.now) (g.O.Sink.held c.show_file.new.out) (g.O.Sink.flushed c.args.out.now) (g.O.Sink.flushed c.show_file.new.out) (g.O.Sink.faults c.args.out.now) (g.O.Sink.faults c.show_file.new.out)) (record { left = refl; faults = refl }) (to_check c.in-Check.name.now) c.show_file.result refl c.show_file.ensures.untouched)

pub returns-in-Plan-clause-cause : goal.returns-in-Plan-clause-cause
returns-in-Plan-clause-cause g c =
    rw c.in-Plan.is
    (law.plan_cause (files_ends (g.F.Files.told c.args.files.now) (g.F.Files.faults c.args.files.now) (g.F.Files.faults c.show_file-in-Plan.new.files)) (pool_ends (g.P.Pool.means c.args.pool.now) (g.P.Pool.told c.args.pool.now) (g.P.Pool.told c.args.pool.now)) (source_ends (g.S.Source.left c.args.corpus.now) (g.S.Source.left c.args.corpus.now) (g.S.Source.faults c.args.corpus.now) (g.S.Source.faults c.args.corpus.now)) (sink_ends (g.O.Sink.held c.args.out.now) (g.O.Sink.held c.show_file-in-Plan.new.out) (g.O.Sink.flushed c.args.out.now) (g.O.Sink.flushed c.show_file-in-Plan.new.out) (g.O.Sink.faults c.args.out.now) (g.O.Sink.faults c.show_file-in-Plan.new.out)) (record { left = refl; faults = refl }) c.in-Plan.name.now c.show_file-in-Plan.result refl c.show_file-in-Plan.ensures.shown)

pub returns-in-Plan-clause-front : goal.returns-in-Plan-clause-front
returns-in-Plan-clause-front g c =
    rw c.in-Plan.is
    (law.untouched_front (files_ends (g.F.Files.told c.args.files.now) (g.F.Files.faults c.args.files.now) (g.F.Files.faults c.show_file-in-Plan.new.files)) (pool_ends (g.P.Pool.means c.args.pool.now) (g.P.Pool.told c.args.pool.now) (g.P.Pool.told c.args.pool.now)) (source_ends (g.S.Source.left c.args.corpus.now) (g.S.Source.left c.args.corpus.now) (g.S.Source.faults c.args.corpus.now) (g.S.Source.faults c.args.corpus.now)) (sink_ends (g.O.Sink.held c.args.out.now) (g.O.Sink.held c.show_file-in-Plan.new.out) (g.O.Sink.flushed c.args.out.now) (g.O.Sink.flushed c.show_file-in-Plan.new.out) (g.O.Sink.faults c.args.out.now) (g.O.Sink.faults c.show_file-in-Plan.new.out)) (record { left = refl; faults = refl }) (to_plan c.in-Plan.name.now) c.show_file-in-Plan.result refl c.show_file-in-Plan.ensures.untouched)

pub returns-in-Demo-clause-cause : goal.returns-in-Demo-clause-cause
returns-in-Demo-clause-cause g c =
    rw c.in-Demo.is
    (law.demo_cause (files_ends (g.F.Files.told c.args.files.now) (g.F.Files.faults c.args.files.now) (g.F.Files.faults c.args.files.now)) (pool_ends (g.P.Pool.means c.args.pool.now) (g.P.Pool.told c.args.pool.now) (g.P.Pool.told c.demonstrate.new.pool)) (source_ends (g.S.Source.left c.args.corpus.now) (g.S.Source.left c.args.corpus.now) (g.S.Source.faults c.args.corpus.now) (g.S.Source.faults c.args.corpus.now)) (sink_ends (g.O.Sink.held c.args.out.now) (g.O.Sink.held c.demonstrate.new.out) (g.O.Sink.flushed c.args.out.now) (g.O.Sink.flushed c.demonstrate.new.out) (g.O.Sink.faults c.args.out.now) (g.O.Sink.faults c.demonstrate.new.out)) (record { left = refl; faults = refl }) c.in-Demo.count c.demonstrate.result refl c.demonstrate.ensures.sent)

pub returns-in-Demo-clause-front : goal.returns-in-Demo-clause-front
returns-in-Demo-clause-front g c =
    rw c.in-Demo.is
    (law.demo_front (files_ends (g.F.Files.told c.args.files.now) (g.F.Files.faults c.args.files.now) (g.F.Files.faults c.args.files.now)) (pool_ends (g.P.Pool.means c.args.pool.now) (g.P.Pool.told c.args.pool.now) (g.P.Pool.told c.demonstrate.new.pool)) (source_ends (g.S.Source.left c.args.corpus.now) (g.S.Source.left c.args.corpus.now) (g.S.Source.faults c.args.corpus.now) (g.S.Source.faults c.args.corpus.now)) (sink_ends (g.O.Sink.held c.args.out.now) (g.O.Sink.held c.demonstrate.new.out) (g.O.Sink.flushed c.args.out.now) (g.O.Sink.flushed c.demonstrate.new.out) (g.O.Sink.faults c.args.out.now) (g.O.Sink.faults c.demonstrate.new.out)) (record { left = refl; faults = refl }) c.in-Demo.count c.demonstrate.result c.demonstrate.ensures.untouched c.demonstrate.ensures.handed)
