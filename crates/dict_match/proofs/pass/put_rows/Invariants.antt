use Rattle.std.proofs.Common.{◌≡◌, ◌<◌, ◌++◌, ℕ, [], length, map, take, get_or}
use Rattle.dict_match.specs.Rows.{dict_and_extent, extents_for, extents_of_rows}
use Rattle.dict_match.proofs.pass.put_rows.Given as goal

abbrev pub invariant-loop-one : goal.invariant-loop-one
invariant-loop-one l = record {
  number : length l.rows.items ≡ length l.fn.rows.items;
  each : (i : ℕ) → i < length l.fn.rows.items → get_or (extents_of_rows l.rows.items) i [] ≡ get_or (extents_of_rows l.fn.rows.items) i [] ++ extents_for i (map dict_and_extent (take l.one-index l.found));
}
