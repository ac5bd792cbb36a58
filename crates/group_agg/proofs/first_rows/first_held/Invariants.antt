use Rattle.std.proofs.Common.{map, take}
use Rattle.group_agg.specs.Candidates.{keyed, IsHeld}
use Rattle.group_agg.proofs.first_rows.first_held.Given as goal

abbrev pub invariant-loop-row : goal.invariant-loop-row
invariant-loop-row l = IsHeld l.keys l.n (map (keyed l.keys) (take l.row-index l.rows)) l.held.items l.settled
