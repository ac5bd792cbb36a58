use Rattle.std.proofs.Common.{◌≡◌, ℕ, ◌≤◌, ◌+◌, List, [], map, length, slice_get, Some}
use Rattle.dict_match.specs.declared.dict_use.DictUse.{DictUse}
use Rattle.dict_match.specs.declared.trie.End.{End}
use Rattle.dict_match.specs.Dictionaries.{folded}
use Rattle.dict_match.specs.Tries.{Reaches, put_dicts}
use Rattle.dict_match.specs.Walks.{run_texts, HasRun, AreAhead}
use Rattle.dict_match.proofs.probe.has_run_from.Given as goal

abbrev pub invariant-loop-last : goal.invariant-loop-last
invariant-loop-last l = record {
  reached : (put : List (List (List ℕ) × End)) → Reaches l.trie put 0 [] → Reaches l.trie put l.node (map folded (run_texts l.tokens l.first l.last));
  none : (dicts : List DictUse) (the : DictUse) → Reaches l.trie (put_dicts 0 dicts) 0 [] → slice_get dicts l.dict ≡ Some the → HasRun the l.tokens l.first l.last → ⊥;
  numbers : AreAhead l.trie l.tokens l.ahead;
  begun : l.ahead.begin ≤ l.first;
  next : l.last ≤ l.ahead.begin + length l.ahead.numbers.items;
}
