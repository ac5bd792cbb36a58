-- Each turn takes what is ready, and reads at least one byte more or ends.
use Rattle.std.proofs.Common.{◌≡◌, ◌-◌, is_some}
use Rattle.corpus_json.specs.Limits.{corpus_limit}
use Rattle.corpus_json.proofs.UnderWay.{IsUnderWay}
use Rattle.corpus_json.proofs.line_buffer.LineBuffer.next_line.Given as goal

abbrev pub invariant-pieces : goal.invariant-pieces
invariant-pieces g l = record {
  way : IsUnderWay (g.S.Source.left l.initial.source) (g.S.Source.left l.source) (g.S.Source.faults l.initial.source) (g.S.Source.faults l.source) l.initial.self l.self l.line.items;
  told : is_some (g.S.Source.left l.source) ≡ is_some (g.S.Source.left l.initial.source);
}

abbrev pub decreases-pieces : goal.decreases-pieces
decreases-pieces g l = corpus_limit - l.self.taken
