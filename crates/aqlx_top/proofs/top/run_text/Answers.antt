use Rattle.aqlx_top.specs.Devices.{source_ends, sink_ends}
use Rattle.aqlx_top.specs.Handing.{pool_ends}
use Rattle.aqlx_top.proofs.FileRuns as law
use Rattle.aqlx_top.proofs.top.run_text.Goals as goal

pub returns-in-Ok-clause-ran : goal.returns-in-Ok-clause-ran
returns-in-Ok-clause-ran g c =
    let planned = c.in-Ok.ensures.compiled.planned in
    law.text_run c.args.bytes.now c.in-Ok.program.plan planned c.told_of.ensures.nodes c.told_of.ensures.outputs (pool_ends (g.P.Pool.means c.args.pool.now) (g.P.Pool.told c.args.pool.now) (g.P.Pool.told c.run_by.new.pool)) (source_ends (g.S.Source.left c.args.corpus.now) (g.S.Source.left c.run_by.new.corpus) (g.S.Source.faults c.args.corpus.now) (g.S.Source.faults c.run_by.new.corpus)) (sink_ends (g.O.Sink.held c.args.out.now) (g.O.Sink.held c.run_by.new.out) (g.O.Sink.flushed c.args.out.now) (g.O.Sink.flushed c.run_by.new.out) (g.O.Sink.faults c.args.out.now) (g.O.Sink.faults c.run_by.new.out))
    c.run_by.result c.run_by.ensures.ran

pub returns-in-Ok-clause-part : goal.returns-in-Ok-clause-part
returns-in-Ok-clause-part g c =
    let planned = c.in-Ok.ensures.compiled.planned in
    law.text_part c.args.bytes.now c.in-Ok.program.plan planned c.told_of.ensures.nodes c.told_of.ensures.outputs (pool_ends (g.P.Pool.means c.args.pool.now) (g.P.Pool.told c.args.pool.now) (g.P.Pool.told c.run_by.new.pool)) (source_ends (g.S.Source.left c.args.corpus.now) (g.S.Source.left c.run_by.new.corpus) (g.S.Source.faults c.args.corpus.now) (g.S.Source.faults c.run_by.new.corpus)) (sink_ends (g.O.Sink.held c.args.out.now) (g.O.Sink.held c.run_by.new.out) (g.O.Sink.flushed c.args.out.now) (g.O.Sink.flushed c.run_by.new.out) (g.O.Sink.faults c.args.out.now) (g.O.Sink.faults c.run_by.new.out))
    c.run_by.result c.run_by.ensures.part
