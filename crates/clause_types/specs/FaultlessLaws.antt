-- Lists of faults that are empty.
use Rattle.std.proofs.Common.{◌≡◌, ℕ, Bool, true, false, not, List, [], ◌∷◌, ◌++◌, map, refl, ap}
use Rattle.std.proofs.lemmas.Bool.{false≢true}
use Rattle.clause_types.specs.declared.fault.TypeRule.{TypeRule}
use Rattle.clause_types.specs.Faults.{broken}

abbrev is_nil : {X : Type 0} → List X → Bool
is_nil [] = true
is_nil (x ∷ xs) = false

-- a list with an element isn't empty
pub not_nil : {X : Type 0} (x : X) (xs : List X) → x ∷ xs ≡ [] → ⊥
not_nil x xs h = false≢true (ap is_nil h)

-- lists that are empty together are each empty
pub both_none : {X : Type 0} (a b : List X) → a ++ b ≡ [] → (a ≡ []) × (b ≡ [])
both_none [] b h = (refl, h)
both_none (x ∷ a) b h = absurd (not_nil x (a ++ b) h)

pub map_none : {X Y : Type 0} (f : X → Y) (xs : List X) → map f xs ≡ [] → xs ≡ []
map_none f [] h = refl
map_none f (x ∷ xs) h = absurd (not_nil (f x) (map f xs) h)

-- a rule that isn't broken
pub unbroken : (b : Bool) (at : ℕ) (rule : TypeRule) → broken (not b) at rule ≡ [] → b ≡ true
unbroken true at rule h = refl
unbroken false at rule h = absurd (not_nil (record { at = at; rule = rule }) [] h)
