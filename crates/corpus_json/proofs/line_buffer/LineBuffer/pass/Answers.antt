use Rattle.std.proofs.Common.{arith}
use Rattle.corpus_json.proofs.Windows.{passed-ready}
use Rattle.corpus_json.proofs.line_buffer.LineBuffer.pass.Goals as goal

pub returns-then-count-ready-clause-passed : goal.returns-then-count-ready-clause-passed
returns-then-count-ready-clause-passed g c =
    let s = c.self.inside in
    passed-ready (g.S.Source.left c.args.source.now) s.bytes.items s.from s.to s.taken c.args.count s.last c.args.self.now c.self.view_is
    (omega (arith, c.self.invariant.within, s.bytes.ok.0)) (omega (arith, c.self.invariant.in_order, c.if-count-ready.true))
