use Rattle.std.proofs.Common.{◌≡◌, ℕ, ◌≤◌, ◌+◌, List, [], ◌++◌, map, length, slice_get, Some}
use Rattle.dict_match.specs.declared.dict_use.DictUse.{DictUse}
use Rattle.dict_match.specs.declared.trie.End.{End}
use Rattle.dict_match.specs.Dictionaries.{folded}
use Rattle.dict_match.specs.DictMatches.{matches_from}
use Rattle.dict_match.specs.Rows.{dict_and_extent, extents_for}
use Rattle.dict_match.specs.Tries.{Reaches, put_dicts}
use Rattle.dict_match.specs.Walks.{run_texts, Extends, AreAhead}
use Rattle.dict_match.proofs.walk.push_matches_from.Given as goal

abbrev pub invariant-loop-last : goal.invariant-loop-last
invariant-loop-last l = record {
  reached : (put : List (List (List ℕ) × End)) → Reaches l.trie put 0 [] → Reaches l.trie put l.node (map folded (run_texts l.tokens l.first l.last));
  matches : (dicts : List DictUse) (i : ℕ) (dict : DictUse) → Reaches l.trie (put_dicts 0 dicts) 0 [] → slice_get dicts i ≡ Some dict
      → extents_for i (map dict_and_extent l.into.items) ≡ extents_for i (map dict_and_extent l.fn.into.items) ++ matches_from dict l.tokens.doc l.tokens.tokens l.first l.last;
  added : (dicts : List DictUse) → Reaches l.trie (put_dicts 0 dicts) 0 [] → Extends (length dicts) l.fn.into.items l.into.items;
  numbers : AreAhead l.trie l.tokens l.ahead;
  begun : l.ahead.begin ≤ l.first;
  next : l.last ≤ l.ahead.begin + length l.ahead.numbers.items;
}
