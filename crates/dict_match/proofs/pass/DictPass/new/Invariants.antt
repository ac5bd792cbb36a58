use Rattle.std.proofs.Common.{[], take}
use Rattle.dict_match.specs.Passes.{AreMost, entries_of}
use Rattle.dict_match.specs.Tries.{Reaches, put_dicts}
use Rattle.dict_match.proofs.pass.DictPass.new.Given as goal

abbrev pub invariant-loop-dict_number : goal.invariant-loop-dict_number
invariant-loop-dict_number l = record {
  tree : Reaches l.trie (put_dicts 0 (take l.dict_number l.dicts)) 0 [];
  most : AreMost (entries_of (take l.dict_number l.dicts)) l.most.items;
}
