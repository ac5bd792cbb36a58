use Rattle.std.proofs.Common.{◌≡◌, map, take}
use Rattle.span_joins.specs.Sweeps.{entries_of, entry_of}
use Rattle.span_joins.proofs.side.Side.keys.Given as goal

abbrev pub invariant-loop-i : goal.invariant-loop-i
invariant-loop-i l = map entry_of l.keys.items ≡ take l.i (entries_of l.self)
