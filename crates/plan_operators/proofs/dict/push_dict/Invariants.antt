use Rattle.std.proofs.Common.{◌≡◌, ◌++◌, map, take}
use Rattle.dict_match.specs.Rows.{dict_and_extent, extents_for}
use Rattle.plan_operators.specs.DictNumbers.{with_number}
use Rattle.plan_operators.proofs.dict.push_dict.Given as goal

abbrev pub invariant-loop-one : goal.invariant-loop-one
invariant-loop-one l = l.into ≡ record {
  width = l.fn.into.width;
  rows = l.fn.into.rows ++ map (with_number l.row l.number) (extents_for l.dict (map dict_and_extent (take l.one-index l.found)));
}
