use Rattle.std.proofs.Common.{◌≡◌, ◌++◌, map, flat_map}
use Rattle.std.specs.List.{range_with_len}
use Rattle.dict_match.specs.Rows.{dict_and_extent}
use Rattle.plan_operators.specs.DictNumbers.{numbered_at}
use Rattle.plan_operators.proofs.dict.push_dicts.Given as goal

abbrev pub invariant-loop-number : goal.invariant-loop-number
invariant-loop-number l = l.into ≡ record {
  width = l.fn.into.width;
  rows = l.fn.into.rows ++ flat_map (numbered_at l.row (map dict_and_extent l.found) l.dicts) (range_with_len 0 l.number);
}
