use Rattle.std.proofs.Common.{◌≡◌, [], replicate}
use Rattle.dict_match.specs.Rows.{extents_of_rows}
use Rattle.dict_match.proofs.pass.empty_rows.Given as goal

abbrev pub invariant-loop-i : goal.invariant-loop-i
invariant-loop-i l = extents_of_rows l.rows.items ≡ replicate l._i []
