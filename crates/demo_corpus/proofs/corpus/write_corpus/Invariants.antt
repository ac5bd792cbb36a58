use Rattle.std.proofs.Common.{◌≡◌, is_some}
use Rattle.demo_corpus.specs.Corpora.{generated_corpus}
use Rattle.demo_corpus.specs.Prefixes.{GainsAllBut}
use Rattle.demo_corpus.proofs.corpus.write_corpus.Given as goal

abbrev pub invariant-documents : goal.invariant-documents
invariant-documents g l = record {
  gained : GainsAllBut l.pending.items (g.O.Sink.held l.initial.out) (g.O.Sink.held l.out) (generated_corpus l.i);
  told : is_some (g.O.Sink.held l.out) ≡ is_some (g.O.Sink.held l.initial.out);
  flushed : g.O.Sink.flushed l.out ≡ g.O.Sink.flushed l.initial.out;
  faults : g.O.Sink.faults l.out ≡ g.O.Sink.faults l.initial.out;
}
