use Rattle.std.proofs.Common.{◌≡◌, replicate, None}
use Rattle.scalar_ops.proofs.tools.unprepared.Given as goal

abbrev pub invariant-loop-n : goal.invariant-loop-n
invariant-loop-n g l = l.all.items ≡ replicate l._n None
