use Rattle.aqlx_top.specs.Devices.{source_ends, sink_ends}
use Rattle.aqlx_top.proofs.Handings as law
use Rattle.aqlx_top.proofs.workers.run_by.Goals as goal

pub returns-then-is_plain-clause-ran : goal.returns-then-is_plain-clause-ran
returns-then-is_plain-clause-ran g c =
    law.ran_plain (g.P.Pool.means c.args.pool.now) (g.P.Pool.told c.args.pool.now) (g.P.Pool.told c.run_in_windows.new.pool) c.args.plan.now (c.is_plain.ensures.means c.if-is_plain.true) (c.is_plain.ensures.told c.if-is_plain.true) c.run_in_windows.ensures.told (source_ends (g.S.Source.left c.args.corpus.now) (g.S.Source.left c.run_in_windows.new.corpus) (g.S.Source.faults c.args.corpus.now) (g.S.Source.faults c.run_in_windows.new.corpus)) (sink_ends (g.O.Sink.held c.args.out.now) (g.O.Sink.held c.run_in_windows.new.out) (g.O.Sink.flushed c.args.out.now) (g.O.Sink.flushed c.run_in_windows.new.out) (g.O.Sink.faults c.args.out.now) (g.O.Sink.faults c.run_in_windows.new.out))
    c.run_in_windows.result c.run_in_windows.ensures.ran

pub returns-then-is_plain-clause-part : goal.returns-then-is_plain-clause-part
returns-then-is_plain-clause-part g c =
    law.unended_plain (g.P.Pool.means c.args.pool.now) (g.P.Pool.told c.args.pool.now) (g.P.Pool.told c.run_in_windows.new.pool) c.args.plan.now (c.is_plain.ensures.means c.if-is_plain.true) (c.is_plain.ensures.told c.if-is_plain.true) c.run_in_windows.ensures.told (source_ends (g.S.Source.left c.args.corpus.now) (g.S.Source.left c.run_in_windows.new.corpus) (g.S.Source.faults c.args.corpus.now) (g.S.Source.faults c.run_in_windows.new.corpus)) (g.O.Sink.held c.args.out.now) (g.O.Sink.held c.run_in_windows.new.out) c.run_in_windows.result c.run_in_windows.ensures.part
