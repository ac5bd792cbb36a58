-- Lists in which each value stands once, and the numbers of values in them, from 0.
use Rattle.std.specs.Prelude.{ℕ, Bool, not, List, [], ◌∷◌, filter}
use Rattle.std.specs.List.{position_or_len}

module _ {X : Type 0} (same : X → X → Bool) where
  -- each value once, where it stands first
  abbrev pub each_once : List X → List X
  each_once [] = []
  each_once (x ∷ xs) = x ∷ filter (λ y. not (same x y)) (each_once xs)

  -- how many stand before the first that is equal to `x`; all, where none is
  abbrev pub number_among : X → List X → ℕ
  number_among x xs = position_or_len (same x) xs
