use Rattle.aqlx_top.proofs.Following as law
use Rattle.demo_corpus.specs.Corpora.{generated_corpus}
use Rattle.aqlx_top.proofs.modes.generate.Goals as goal

pub returns-in-Ok-clause-sent : goal.returns-in-Ok-clause-sent
returns-in-Ok-clause-sent g c =
    law.flushed_after (g.O.Sink.held c.args.out.now) (g.O.Sink.held c.write_corpus.new.out) (g.O.Sink.held c.flush.new.out)
    (g.O.Sink.flushed c.args.out.now) (g.O.Sink.flushed c.write_corpus.new.out) (g.O.Sink.flushed c.flush.new.out)
    (g.O.Sink.faults c.args.out.now) (g.O.Sink.faults c.write_corpus.new.out) (g.O.Sink.faults c.flush.new.out)
    (generated_corpus c.args.count) c.flush.result c.in-Ok.ensures.bytes c.in-Ok.ensures.cause c.flush.ensures
