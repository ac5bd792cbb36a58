use Rattle.std.proofs.Common.{◌∙◌}
use Rattle.aqlx_top.specs.Devices.{sink_ends}
use Rattle.aqlx_top.proofs.Handings as by
use Rattle.aqlx_top.proofs.Turns as law
use Rattle.aqlx_top.proofs.run.finish.Goals as goal

pub returns-in-Ok : goal.returns-in-Ok
returns-in-Ok g c = λ pool plan corpus before flushed faults unfailed finished.
    by.run_by_to pool plan corpus (sink_ends before (g.O.Sink.held c.put_and_flush.new.out) flushed (g.O.Sink.flushed c.put_and_flush.new.out) faults (g.O.Sink.faults c.put_and_flush.new.out))
    (g.O.Sink.held c.args.out.now) c.args.pending.now c.args.status finished c.in-Ok.ensures.bytes c.in-Ok.ensures.flushed (c.in-Ok.ensures.stands ∙ unfailed)

pub returns-in-Err : goal.returns-in-Err
returns-in-Err g c = λ pool plan corpus before flushed faults unfailed finished. (
  law.rose_later faults (g.O.Sink.faults c.args.out.now) (g.O.Sink.faults c.put_and_flush.new.out) unfailed c.in-Err.ensures.cause,
  by.finished_in_part_by pool plan corpus before (g.O.Sink.held c.args.out.now) (g.O.Sink.held c.put_and_flush.new.out) c.args.pending.now c.args.status c.in-Err.ensures.bytes.0 finished c.in-Err.ensures.bytes.1,
)
