-- Plans whose nodes stand in the order in which they are needed: what only a right side needs stands behind the left one.
use Rattle.std.specs.Prelude.{ℕ, ◌≡◌, ◌<◌, ◌⊎◌, Some, List, length, slice_get, Contains}
use Rattle.algebra.specs.declared.node.Node.{Node}
use Rattle.algebra.specs.Inputs.{left_input, right_input}

-- no output shows one of these nodes, and a node that reads one of them is among them too, or has it on its right and node g
-- on its left
pub record AreRightOf (nodes : List Node) (shown : List ℕ) (g : ℕ) (these : List ℕ) : Type 0 where
  pub unshown : (n : ℕ) → Contains these n → Contains shown n → ⊥
  pub left : (n k : ℕ) (node : Node) → Contains these n → slice_get nodes k ≡ Some node → left_input node ≡ Some n → Contains these k
  pub right : (n k : ℕ) (node : Node) → Contains these n → slice_get nodes k ≡ Some node → right_input node ≡ Some n → Contains these k ⊎ (left_input node ≡ Some g)

-- what is only read for right inputs of nodes that have node g on their left stands behind node g
abbrev pub IsInOrder : List Node → List ℕ → Type 0
IsInOrder nodes shown = (g : ℕ) (these : List ℕ) → AreRightOf nodes shown g these → (n : ℕ) → n < length nodes → Contains these n → g < n
