use Rattle.std.proofs.Common.{◌≡◌}
use Rattle.group_agg.specs.LawProofs.Pairs.{compared_from}
use Rattle.group_agg.proofs.first_rows.comes_before.Given as goal

abbrev pub invariant-loop-i : goal.invariant-loop-i
invariant-loop-i l = compared_from l.keys l.row l.held 0 ≡ compared_from l.keys l.row l.held l.i
