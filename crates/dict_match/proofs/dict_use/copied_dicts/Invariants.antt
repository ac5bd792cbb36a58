use Rattle.std.proofs.Common.{◌≡◌, take}
use Rattle.dict_match.proofs.dict_use.copied_dicts.Given as goal

abbrev pub invariant-loop-dict : goal.invariant-loop-dict
invariant-loop-dict l = l.copies ≡ take l.dict-index l.dicts
