-- The tree of all entries' folded tokens: a node for each beginning of some entry.
use Rattle.std.specs.Prelude.{◌≡◌, ◌≢◌, ℕ, ◌<◌, ◌+◌, ◌↔◌, ◌&&◌, nat_eq, Bool, cond, List, [], ◌∷◌, ◌++◌, map, take, length, slice_get, slice_index_or, Option, Some, None, option_and_then}
use Rattle.std.specs.List.{AllPairs, Contains, flat_map}
use Rattle.std.specs.HashMap.{get, get_by_text, hash_map_len}
use Rattle.dict_match.specs.declared.dict_use.DictUse.{DictUse}
use Rattle.dict_match.specs.declared.trie.End.{End}
use Rattle.dict_match.specs.declared.trie.Trie.{Trie}
use Rattle.dict_match.specs.Dictionaries.{folded, entry_texts}
use Rattle.dict_match.specs.Marks.{mark_of, HasMark}

-- ---- what is put in

-- the end of an entry with these texts
abbrev pub end_of : ℕ → Bool → List (List ℕ) → End
end_of dict exact texts = record { dict = dict; spelled = cond exact (Some texts) None }

-- tokens with these texts, by their foldings: none where there is no token
abbrev pub put_texts : ℕ → Bool → List (List ℕ) → List (List (List ℕ) × End)
put_texts dict exact [] = []
put_texts dict exact (x ∷ xs) = (map folded (x ∷ xs), end_of dict exact (x ∷ xs)) ∷ []

-- an entry of a dictionary
abbrev pub put_entry : ℕ → Bool → List ℕ → List (List (List ℕ) × End)
put_entry dict exact entry = put_texts dict exact (entry_texts entry)

-- all entries of the dictionary with that number
abbrev pub put_dict : ℕ → DictUse → List (List (List ℕ) × End)
put_dict number dict = flat_map (put_entry number dict.exact) dict.entries

-- all entries of dictionaries, the first of which has that number
abbrev pub put_dicts : ℕ → List DictUse → List (List (List ℕ) × End)
put_dicts first [] = []
put_dicts first (dict ∷ dicts) = put_dict first dict ++ put_dicts (first + 1) dicts

-- ---- the tree

abbrev pub is_same_edge : ℕ × ℕ → ℕ × ℕ → Bool
is_same_edge a b = nat_eq a.0 b.0 && nat_eq a.1 b.1

-- the node to which a word's number leads from a node
abbrev pub edge_from : Trie → ℕ → ℕ → Option ℕ
edge_from trie node word = get is_same_edge trie.edges (node, word)

-- the node to which a folded token leads from a node
unfoldable pub step : Trie → ℕ → List ℕ → Option ℕ
step trie node text = option_and_then (edge_from trie node) (get_by_text trie.words text)

-- each folded token has a number of its own and its mark is among the marks, and edges have these numbers
pub record IsNumbered (trie : Trie) : Type 0 where
  pub below : (text : List ℕ) (word : ℕ) → get_by_text trie.words text ≡ Some word → word < hash_map_len trie.words
  pub apart : (t u : List ℕ) (word : ℕ) → get_by_text trie.words t ≡ Some word → get_by_text trie.words u ≡ Some word → t ≡ u
  pub known : (node word next : ℕ) → edge_from trie node word ≡ Some next → word < hash_map_len trie.words
  pub marked : (text : List ℕ) (word : ℕ) → get_by_text trie.words text ≡ Some word → HasMark trie.marks (mark_of text)

-- a token leads from one node to another where their paths say so
pub record LeadsOn (paths : List (List (List ℕ))) (node : ℕ) (text : List ℕ) (next : ℕ) : Type 0 where
  pub path : List (List ℕ)
  pub «from» : slice_get paths node ≡ Some path
  pub to : slice_get paths next ≡ Some (path ++ text ∷ [])

-- the steps make a tree in which each node has its path from the root
pub record IsTree (steps : ℕ → List ℕ → Option ℕ) (paths : List (List (List ℕ))) : Type 0 where
  pub root : slice_get paths 0 ≡ Some []
  pub leads : (node : ℕ) (text : List ℕ) (next : ℕ) → steps node text ≡ Some next ↔ LeadsOn paths node text next
  pub once : (i j : ℕ) (path : List (List ℕ)) → slice_get paths i ≡ Some path → slice_get paths j ≡ Some path → i ≡ j
  pub closed : (n k : ℕ) (path : List (List ℕ)) → slice_get paths n ≡ Some path → (p : ℕ) × (slice_get paths p ≡ Some (take k path))

-- at each node stand the ends of what was put in with its path, each once
pub record HasEnds (ends : List (List End)) (paths : List (List (List ℕ))) (put : List (List (List ℕ) × End)) : Type 0 where
  pub size : length ends ≡ length paths
  pub listed : (n : ℕ) (path : List (List ℕ)) → slice_get paths n ≡ Some path → (e : End) → Contains (slice_index_or ends n []) e ↔ Contains put (path, e)
  pub once : (n : ℕ) → AllPairs ◌≢◌ (slice_index_or ends n [])
  pub kept : (path : List (List ℕ)) (e : End) → Contains put (path, e) → (n : ℕ) × (slice_get paths n ≡ Some path)

-- a tree of what was put in, in which a node has this path
pub record Reaches (trie : Trie) (put : List (List (List ℕ) × End)) (node : ℕ) (path : List (List ℕ)) : Type 0 where
  pub paths : List (List (List ℕ))
  pub numbered : IsNumbered trie
  pub tree : IsTree (step trie) paths
  pub ends : HasEnds trie.ends.items paths put
  pub at : slice_get paths node ≡ Some path

-- a tree of something
pub record IsTrie (trie : Trie) : Type 0 where
  pub put : List (List (List ℕ) × End)
  pub made : Reaches trie put 0 []
