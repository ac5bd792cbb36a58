use Rattle.aqlx_top.specs.Devices.{files_ends, sink_ends}
use Rattle.aqlx_top.proofs.FileRuns as law
use Rattle.aqlx_top.proofs.modes.show_file.Goals as goal

pub returns-in-Some-clause-shown : goal.returns-in-Some-clause-shown
returns-in-Some-clause-shown g c =
    law.file_shown c.args.shown c.args.name.now c.in-Some.bytes.items (files_ends (g.F.Files.told c.args.files.now) (g.F.Files.faults c.args.files.now) (g.F.Files.faults c.read_file.new.files))
    (sink_ends (g.O.Sink.held c.args.out.now) (g.O.Sink.held c.show_text.new.out) (g.O.Sink.flushed c.args.out.now) (g.O.Sink.flushed c.show_text.new.out) (g.O.Sink.faults c.args.out.now) (g.O.Sink.faults c.show_text.new.out)) c.show_text.result
    (rw c.in-Some.is at c.in_ok-bytes.ensures.bytes) (rw c.in-Some.is at c.in_ok-bytes.ensures.stands) (rw c.deref.ensures.value at c.show_text.ensures.shown)
