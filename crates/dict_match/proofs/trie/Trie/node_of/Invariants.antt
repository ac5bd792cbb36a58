use Rattle.std.proofs.Common.{ℕ, List, [], map, take}
use Rattle.dict_match.specs.declared.trie.End.{End}
use Rattle.dict_match.specs.Dictionaries.{folded, texts_of}
use Rattle.dict_match.specs.Tries.{Reaches}
use Rattle.dict_match.proofs.trie.Trie.node_of.Given as goal

abbrev pub invariant-loop-i : goal.invariant-loop-i
invariant-loop-i l = (put : List (List (List ℕ) × End)) → Reaches l.fn.self put 0 [] → Reaches l.self put l.node (map folded (take l.i (texts_of l.tokens.doc l.tokens.tokens)))
