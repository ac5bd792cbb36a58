use Rattle.std.proofs.Common.{◌≡◌, ◌≤◌, ℕ, List, [], ◌++◌, map, length, slice_get, Some}
use Rattle.std.specs.List.{flat_map, range_with_len}
use Rattle.dict_match.specs.declared.dict_use.DictUse.{DictUse}
use Rattle.dict_match.specs.DictMatches.{matches_from}
use Rattle.dict_match.specs.Rows.{dict_and_extent, extents_for}
use Rattle.dict_match.specs.Tries.{Reaches, put_dicts}
use Rattle.dict_match.specs.Walks.{Extends, AreAhead}
use Rattle.dict_match.proofs.walk.push_matches.Given as goal

abbrev pub invariant-loop-first : goal.invariant-loop-first
invariant-loop-first l = record {
  matches : (dicts : List DictUse) (i : ℕ) (dict : DictUse) → Reaches l.trie (put_dicts 0 dicts) 0 [] → slice_get dicts i ≡ Some dict
      → extents_for i (map dict_and_extent l.into.items)
      ≡ extents_for i (map dict_and_extent l.fn.into.items) ++ flat_map (λ first. matches_from dict l.tokens.doc l.tokens.tokens first (length l.tokens.tokens)) (range_with_len 0 l.first);
  added : (dicts : List DictUse) → Reaches l.trie (put_dicts 0 dicts) 0 [] → Extends (length dicts) l.fn.into.items l.into.items;
  numbers : AreAhead l.trie l.tokens l.ahead;
  begun : l.ahead.begin ≤ l.first;
}
