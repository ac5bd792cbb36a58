use Rattle.aqlx_top.specs.Devices.{files_ends, source_ends, sink_ends}
use Rattle.aqlx_top.specs.Handing.{pool_ends}
use Rattle.aqlx_top.proofs.FileRuns as law
use Rattle.aqlx_top.proofs.top.run_file.Goals as goal

pub returns-in-Some-clause-ran : goal.returns-in-Some-clause-ran
returns-in-Some-clause-ran g c =
    law.file_run c.args.name.now c.in-Some.bytes.items (files_ends (g.F.Files.told c.args.files.now) (g.F.Files.faults c.args.files.now) (g.F.Files.faults c.read_file.new.files)) (pool_ends (g.P.Pool.means c.args.pool.now) (g.P.Pool.told c.args.pool.now) (g.P.Pool.told c.run_text.new.pool)) (source_ends (g.S.Source.left c.args.corpus.now) (g.S.Source.left c.run_text.new.corpus) (g.S.Source.faults c.args.corpus.now) (g.S.Source.faults c.run_text.new.corpus)) (sink_ends (g.O.Sink.held c.args.out.now) (g.O.Sink.held c.run_text.new.out) (g.O.Sink.flushed c.args.out.now) (g.O.Sink.flushed c.run_text.new.out) (g.O.Sink.faults c.args.out.now) (g.O.Sink.faults c.run_text.new.out)) c.run_text.result
    (rw c.in-Some.is at c.in_ok-bytes.ensures.bytes) (rw c.in-Some.is at c.in_ok-bytes.ensures.stands) (rw c.deref.ensures.value at c.run_text.ensures.ran)

pub returns-in-Some-clause-part : goal.returns-in-Some-clause-part
returns-in-Some-clause-part g c =
    law.file_part c.args.name.now c.in-Some.bytes.items (files_ends (g.F.Files.told c.args.files.now) (g.F.Files.faults c.args.files.now) (g.F.Files.faults c.read_file.new.files)) (pool_ends (g.P.Pool.means c.args.pool.now) (g.P.Pool.told c.args.pool.now) (g.P.Pool.told c.run_text.new.pool)) (source_ends (g.S.Source.left c.args.corpus.now) (g.S.Source.left c.run_text.new.corpus) (g.S.Source.faults c.args.corpus.now) (g.S.Source.faults c.run_text.new.corpus)) (sink_ends (g.O.Sink.held c.args.out.now) (g.O.Sink.held c.run_text.new.out) (g.O.Sink.flushed c.args.out.now) (g.O.Sink.flushed c.run_text.new.out) (g.O.Sink.faults c.args.out.now) (g.O.Sink.faults c.run_text.new.out)) c.run_text.result
    (rw c.in-Some.is at c.in_ok-bytes.ensures.bytes) (rw c.in-Some.is at c.in_ok-bytes.ensures.stands) (rw c.deref.ensures.value at c.run_text.ensures.part)
