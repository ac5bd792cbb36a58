use Rattle.std.proofs.Common.{ℕ, List, [], map}
use Rattle.dict_match.specs.declared.trie.End.{End}
use Rattle.dict_match.specs.Dictionaries.{folded}
use Rattle.dict_match.specs.Tries.{Reaches}
use Rattle.dict_match.specs.Walks.{run_texts}
use Rattle.dict_match.proofs.probe.is_entry.Given as goal

abbrev pub invariant-loop-last : goal.invariant-loop-last
invariant-loop-last l = (put : List (List (List ℕ) × End)) → Reaches l.trie put 0 [] → Reaches l.trie put l.node (map folded (run_texts l.tokens 0 l.last))
