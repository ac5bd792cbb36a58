use Rattle.std.proofs.Common.{map, string_bytes, refl}
use Rattle.std.proofs.lemmas.Result.{err_from_is_err_and}
use Rattle.aqlx_top.specs.Devices.{files_ends, source_ends, sink_ends}
use Rattle.aqlx_top.specs.Handing.{pool_ends}
use Rattle.aqlx_top.specs.Outcome.{call_of}
use Rattle.aqlx_top.proofs.Answers as law
use Rattle.aqlx_top.proofs.top.aqlx.Goals as goal

pub returns-clause-outcome : goal.returns-clause-outcome
returns-clause-outcome g c =
    law.outcome_told (call_of (map string_bytes c.args.words.now.items) (files_ends (g.F.Files.told c.args.files.now) (g.F.Files.faults c.args.files.now) (g.F.Files.faults c.carry_out.new.files)) (pool_ends (g.P.Pool.means c.args.pool.now) (g.P.Pool.told c.args.pool.now) (g.P.Pool.told c.carry_out.new.pool)) (source_ends (g.S.Source.left c.args.corpus.now) (g.S.Source.left c.carry_out.new.corpus) (g.S.Source.faults c.args.corpus.now) (g.S.Source.faults c.carry_out.new.corpus)) (sink_ends (g.O.Sink.held c.args.out.now) (g.O.Sink.held c.carry_out.new.out) (g.O.Sink.flushed c.args.out.now) (g.O.Sink.flushed c.carry_out.new.out) (g.O.Sink.faults c.args.out.now) (g.O.Sink.faults c.carry_out.new.out))) (sink_ends (g.E.Sink.held c.args.err.now) (g.E.Sink.held c.report.new.err) (g.E.Sink.flushed c.args.err.now) (g.E.Sink.flushed c.report.new.err) (g.E.Sink.faults c.args.err.now) (g.E.Sink.faults c.report.new.err)) c.in_ok-status.status c.report.result
    c.carry_out.ensures.unread c.in_ok-status.ensures.cause c.report.ensures.told c.report.ensures.memory

pub returns-in_err-status-clause-outcome : goal.returns-in_err-status-clause-outcome
returns-in_err-status-clause-outcome g c =
    let p = err_from_is_err_and c.from_residual.result c.from_residual.ensures.1 in
    law.outcome_wanting (call_of (map string_bytes c.args.words.now.items) (files_ends (g.F.Files.told c.args.files.now) (g.F.Files.faults c.args.files.now) (g.F.Files.faults c.carry_out.new.files)) (pool_ends (g.P.Pool.means c.args.pool.now) (g.P.Pool.told c.args.pool.now) (g.P.Pool.told c.carry_out.new.pool)) (source_ends (g.S.Source.left c.args.corpus.now) (g.S.Source.left c.carry_out.new.corpus) (g.S.Source.faults c.args.corpus.now) (g.S.Source.faults c.carry_out.new.corpus)) (sink_ends (g.O.Sink.held c.args.out.now) (g.O.Sink.held c.carry_out.new.out) (g.O.Sink.flushed c.args.out.now) (g.O.Sink.flushed c.carry_out.new.out) (g.O.Sink.faults c.args.out.now) (g.O.Sink.faults c.carry_out.new.out)))
    (sink_ends (g.E.Sink.held c.args.err.now) (g.E.Sink.held c.args.err.now) (g.E.Sink.flushed c.args.err.now) (g.E.Sink.flushed c.args.err.now) (g.E.Sink.faults c.args.err.now) (g.E.Sink.faults c.args.err.now)) c.from_residual.result p.0 p.1
    c.in_err-status.ensures.unread c.in_err-status.ensures.front (record { held = refl; flushed = refl; faults = refl })
