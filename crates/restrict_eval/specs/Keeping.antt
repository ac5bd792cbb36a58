-- What is kept of plans in which nothing is done twice.
use Rattle.std.specs.Prelude.{ℕ, ◌≡◌, ◌≢◌, false, List, All}
use Rattle.algebra.specs.declared.node.Node.{Node}
use Rattle.algebra.specs.declared.node.Node.TheVariants.{Dict, Cross, SpanJoin, Restricted}

-- a join asks for both of its inputs, and none looks near its left rows
abbrev pub IsUnrestricted : Node → Type 0
IsUnrestricted (Cross left right conditional) = conditional ≡ false
IsUnrestricted (SpanJoin left right kind lc rc conditional) = conditional ≡ false
IsUnrestricted (Restricted outer source kind lc sought) = ⊥
IsUnrestricted node = Unit {0}

abbrev pub AreUnrestricted : List Node → Type 0
AreUnrestricted nodes = All IsUnrestricted nodes

-- they aren't both `Dict` nodes of one input and column
abbrev pub AreApart : Node → Node → Type 0
AreApart a b = (input column : ℕ) (dicts others : List ℕ) → a ≡ Dict input column dicts → b ≢ Dict input column others
