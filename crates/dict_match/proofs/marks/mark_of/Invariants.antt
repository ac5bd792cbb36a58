use Rattle.std.proofs.Common.{◌≡◌, ◌<◌, take}
use Rattle.std.specs.List.{fold}
use Rattle.dict_match.specs.Marks.{mark_behind}
use Rattle.dict_match.proofs.marks.mark_of.Given as goal

abbrev pub invariant-loop-byte : goal.invariant-loop-byte
invariant-loop-byte l = record {
  mark : l.mark ≡ fold mark_behind 0 (take l.byte-index l.bytes);
  below : l.mark < 262144;
}
