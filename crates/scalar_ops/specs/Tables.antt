-- What the numbers in expressions name.
use Rattle.std.specs.Prelude.{ℕ, Bool, false, List, Option, Some, None, slice_get}
use Rattle.dict_match.specs.declared.dict_use.DictUse.{DictUse}

-- the patterns by their texts, and the dictionaries
pub record Lists : Type 0 where
  pub patterns : List (List ℕ)
  pub dicts : List DictUse

-- a test of what there is, false of nothing
abbrev pub holds_of_some : {A : Type 0} → (A → Bool) → Option A → Bool
holds_of_some f None = false
holds_of_some f (Some x) = f x

-- a test of the pattern with that number, false where there is none
abbrev pub holds_of_pattern : Lists → ℕ → (List ℕ → Bool) → Bool
holds_of_pattern lists p f = holds_of_some f (slice_get lists.patterns p)

-- a test of the dictionary with that number, false where there is none
abbrev pub holds_of_dict : Lists → ℕ → (DictUse → Bool) → Bool
holds_of_dict lists d f = holds_of_some f (slice_get lists.dicts d)
