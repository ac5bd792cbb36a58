-- Words that ask for nothing, by their number.
use Rattle.std.proofs.Common.{◌≡◌, ℕ, ◌≤◌, ◌<◌, List, [], ◌∷◌, length, map, refl, arith, Option, None}
use Rattle.aqlx_top.specs.Words.{Order, order_of}

module _ {X : Type 0} (f : X → List ℕ) where
  pub none-of-few : (words : List X) → length words < 2 → ◌≡◌ {A = Option Order} None (order_of (map f words))
  none-of-few [] few = refl
  none-of-few (a ∷ []) few = refl
  none-of-few (a ∷ b ∷ words) few = absurd (omega arith)

  pub none-of-three : (words : List X) → 3 ≤ length words → length words < 4 → ◌≡◌ {A = Option Order} None (order_of (map f words))
  none-of-three [] some few = absurd (omega arith)
  none-of-three (a ∷ []) some few = absurd (omega arith)
  none-of-three (a ∷ b ∷ []) some few = absurd (omega arith)
  none-of-three (a ∷ b ∷ c ∷ []) some few = refl
  none-of-three (a ∷ b ∷ c ∷ d ∷ words) some few = absurd (omega arith)

  pub none-of-many : (words : List X) → 5 ≤ length words → ◌≡◌ {A = Option Order} None (order_of (map f words))
  none-of-many [] many = absurd (omega arith)
  none-of-many (a ∷ []) many = absurd (omega arith)
  none-of-many (a ∷ b ∷ []) many = absurd (omega arith)
  none-of-many (a ∷ b ∷ c ∷ []) many = absurd (omega arith)
  none-of-many (a ∷ b ∷ c ∷ d ∷ []) many = absurd (omega arith)
  none-of-many (a ∷ b ∷ c ∷ d ∷ e ∷ words) many = refl
