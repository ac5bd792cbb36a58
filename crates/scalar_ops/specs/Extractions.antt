-- What the numbers of patterns and dictionaries stand for, where something is looked for.
use Rattle.std.specs.Prelude.{ℕ, List, [], Option, Some, None, slice_get}
use Rattle.dict_match.specs.declared.dict_use.DictUse.{DictUse}
use Rattle.scalar_ops.specs.Tables.{Lists}

-- what there is of something, nothing where it isn't there
abbrev pub of_some : {A B : Type 0} → (A → List B) → Option A → List B
of_some f None = []
of_some f (Some x) = f x

-- what there is of the pattern with that number
abbrev pub of_pattern : {B : Type 0} → Lists → ℕ → (List ℕ → List B) → List B
of_pattern lists p f = of_some f (slice_get lists.patterns p)

-- what there is of the dictionary with that number
abbrev pub of_dict : {B : Type 0} → Lists → ℕ → (DictUse → List B) → List B
of_dict lists d f = of_some f (slice_get lists.dicts d)
