use Rattle.std.proofs.Common.{take, All}
use Rattle.span_joins.specs.Sweeps.{Entry, entries_of, AreInOrder, IsRankBefore, IsProper}
use Rattle.span_joins.proofs.sweep.rises_from.Given as goal

abbrev pub invariant-loop-i : goal.invariant-loop-i
invariant-loop-i l = record {
  last : IsRankBefore l.by (entries_of l.side) l.i l.last;
  rises : AreInOrder l.by (take l.i (entries_of l.side));
  proper : All (λ (entry : Entry). IsProper entry.span) (take l.i (entries_of l.side));
}
