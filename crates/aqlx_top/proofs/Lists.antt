-- Short lists by their elements.
use Rattle.std.proofs.Common.{◌≡◌, ◌<◌, ◌≤◌, List, [], ◌∷◌, length, get_or, ap₂, arith, sym}

-- a list of two elements
pub list_of_two : {A : Type 0} (xs : List A) (a b : A) → 2 ≤ length xs → length xs < 3
    → a ≡ get_or xs 0 a → b ≡ get_or xs 1 b → xs ≡ a ∷ b ∷ []
list_of_two [] a b low high first second = absurd (omega arith)
list_of_two (x ∷ []) a b low high first second = absurd (omega arith)
list_of_two (x ∷ y ∷ []) a b low high first second = ap₂ (λ u v. u ∷ v ∷ []) (sym first) (sym second)
list_of_two (x ∷ y ∷ z ∷ zs) a b low high first second = absurd (omega arith)
