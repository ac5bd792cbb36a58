-- What a `DictPass` keeps beside its dictionaries: the tree of all their entries, and how long these are.
use Rattle.std.specs.Prelude.{◌≡◌, ◌≤◌, ◌<◌, ℕ, List, [], All, length, map, slice_index_or}
use Rattle.dict_match.specs.declared.dict_use.DictUse.{DictUse}
use Rattle.dict_match.specs.declared.pass.DictPass.TheInside.{Inside}
use Rattle.dict_match.specs.Dictionaries.{entry_texts}
use Rattle.dict_match.specs.Tries.{Reaches, put_dicts}

abbrev pub dicts_kept : Inside → List DictUse
dicts_kept p = p.dicts

-- no entry of a dictionary has more tokens
abbrev pub HaveAtMost : ℕ → List (List ℕ) → Type 0
HaveAtMost most entries = All (λ entry. length (entry_texts entry) ≤ most) entries

-- so it is of each of some lists of entries
pub record AreMost (lists : List (List (List ℕ))) (most : List ℕ) : Type 0 where
  pub long : length most ≡ length lists
  pub each : (i : ℕ) → i < length lists → HaveAtMost (slice_index_or most i 0) (slice_index_or lists i [])

abbrev pub entries_of : List DictUse → List (List (List ℕ))
entries_of = map (λ dict. dict.entries)

pub record IsIndexed (p : Inside) : Type 0 where
  pub tree : Reaches p.trie (put_dicts 0 p.dicts) 0 []
  pub most : AreMost (entries_of p.dicts) p.most.items
