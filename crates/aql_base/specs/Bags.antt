-- Bags: lists up to the order of their elements.
use Rattle.std.specs.Prelude.{◌≡◌, ℕ, List}
use Rattle.std.specs.List.{count_by}
use Rattle.std.specs.List.Sorted.{IsPermutation}
use Rattle.std.specs.Ordering.{eq_by_cmp}
use Rattle.std.specs.declared.cmp.Ordering.{Ordering}

-- each value occurs equally often in both lists: one is the other in another order
abbrev pub SameBag : {X : Type 0} → List X → List X → Type 0
SameBag = IsPermutation

-- how many elements of xs the order cmp doesn't tell from x
abbrev pub count_of : {X : Type 0} → (X → X → Ordering) → X → List X → ℕ
count_of cmp x xs = count_by (eq_by_cmp cmp x) xs

-- each value, up to the order cmp, occurs in both lists equally often
abbrev pub OccursEquallyOften : {X : Type 0} → (X → X → Ordering) → List X → List X → Type 0
OccursEquallyOften {X} cmp xs ys = (x : X) → count_of cmp x xs ≡ count_of cmp x ys
