-- The elements of a list in the order that a comparison gives; those that it doesn't tell apart keep their order.
use Rattle.std.specs.Prelude.{List, [], ◌∷◌, if◌then◌else◌}
use Rattle.std.specs.Ordering.{is_lt}
use Rattle.std.specs.declared.cmp.Ordering.{Ordering}

-- x put into a list in order, before the first element that isn't less
unfoldable pub put_in_order : {X : Type 0} → (X → X → Ordering) → X → List X → List X
put_in_order cmp x [] = x ∷ []
put_in_order cmp x (y ∷ ys) = if is_lt (cmp y x) then y ∷ put_in_order cmp x ys else x ∷ y ∷ ys

-- the elements of the list in order
unfoldable pub sorted_by : {X : Type 0} → (X → X → Ordering) → List X → List X
sorted_by cmp [] = []
sorted_by cmp (x ∷ xs) = put_in_order cmp x (sorted_by cmp xs)
