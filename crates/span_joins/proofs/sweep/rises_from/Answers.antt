use Rattle.std.proofs.Common.{List, All, arith}
use Rattle.span_joins.specs.Sweeps.{Entry, entries_of, AreInOrder, IsProper}
use Rattle.span_joins.proofs.OrderLaws.{in_order-next, proper-next, whole}
use Rattle.span_joins.proofs.sweep.rises_from.Goals as goal

pub loop-i-preserved : goal.loop-i-preserved
loop-i-preserved c =
    let entries = entries_of c.args.side in
    record {
      last = c.rises_at.ensures.last;
      rises = in_order-next entries c.loop-i.i c.args.by c.loop-i.invariant.rises (λ below. c.rises_at.ensures.yes c.if-not-rises_at.false below);
      proper = proper-next entries c.loop-i.i c.loop-i.invariant.proper c.rises_at.ensures.proper;
    }

pub returns-clause-yes : goal.returns-clause-yes
returns-clause-yes c _ = whole (AreInOrder c.args.by) (entries_of c.args.side) c.loop-i.i (omega (arith, c.loop-i-test.false, c.len-i-end.ensures)) c.loop-i.invariant.rises

pub returns-clause-proper : goal.returns-clause-proper
returns-clause-proper c _ = whole (λ (es : List Entry). All (λ e. IsProper e.span) es) (entries_of c.args.side) c.loop-i.i (omega (arith, c.loop-i-test.false, c.len-i-end.ensures)) c.loop-i.invariant.proper
