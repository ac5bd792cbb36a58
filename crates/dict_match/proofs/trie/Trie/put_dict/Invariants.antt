use Rattle.std.proofs.Common.{ℕ, List, [], ◌++◌, take}
use Rattle.std.specs.List.{flat_map}
use Rattle.dict_match.specs.declared.trie.End.{End}
use Rattle.dict_match.specs.Passes.{HaveAtMost}
use Rattle.dict_match.specs.Tries.{Reaches, put_entry}
use Rattle.dict_match.proofs.trie.Trie.put_dict.Given as goal

abbrev pub invariant-loop-entry : goal.invariant-loop-entry
invariant-loop-entry l = record {
  tree : (put : List (List (List ℕ) × End)) → Reaches l.fn.self put 0 [] → Reaches l.self (put ++ flat_map (put_entry l.dict_number l.dict.exact) (take l.entry-index l.dict.entries)) 0 [];
  most : HaveAtMost l.most (take l.entry-index l.dict.entries);
}
