-- Plans in which nothing is done twice: no two nodes are equal, and no column is searched for dictionaries by two nodes.
use Rattle.std.specs.Prelude.{ℕ, ◌≡◌, ◌≢◌, List}
use Rattle.std.specs.List.{AllPairs}
use Rattle.algebra.specs.declared.node.Node.{Node}
use Rattle.algebra.specs.declared.node.Node.TheVariants.{Dict}

-- no two nodes are equal
abbrev pub AreDistinct : List Node → Type 0
AreDistinct nodes = AllPairs (λ a b. a ≢ b) nodes

-- they aren't both `Dict` nodes of one input and column
abbrev pub AreApart : Node → Node → Type 0
AreApart a b = (input column : ℕ) (dicts others : List ℕ) → a ≡ Dict input column dicts → b ≢ Dict input column others

-- no two `Dict` nodes have one input and column
abbrev pub AreMerged : List Node → Type 0
AreMerged nodes = AllPairs AreApart nodes
