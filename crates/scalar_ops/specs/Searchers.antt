-- What a worker keeps for patterns.
use Rattle.std.specs.Prelude.{ℕ, ◌≡◌, List, Option, Some, length, slice_get}

-- an entry for each pattern; the searchers that were made stand at the numbers of their patterns
pub record ArePrepared (patterns : List (List ℕ)) (kept : List (Option (List ℕ))) : Type 0 where
  pub number : length kept ≡ length patterns
  pub each : (i : ℕ) (text : List ℕ) → slice_get kept i ≡ Some (Some text) → slice_get patterns i ≡ Some text
