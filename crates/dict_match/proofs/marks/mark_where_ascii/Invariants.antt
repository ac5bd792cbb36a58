use Rattle.std.proofs.Common.{◌≡◌, ◌<◌, ℕ, take, get_or}
use Rattle.std.specs.List.{fold}
use Rattle.dict_match.specs.Marks.{mark_behind}
use Rattle.dict_match.proofs.marks.mark_where_ascii.Given as goal

abbrev pub invariant-loop-byte : goal.invariant-loop-byte
invariant-loop-byte l = record {
  mark : l.mark ≡ fold mark_behind 0 (take l.byte-index l.bytes);
  below : l.mark < 262144;
  ascii : (i : ℕ) → i < l.byte-index → get_or l.bytes i 0 < 128;
}
