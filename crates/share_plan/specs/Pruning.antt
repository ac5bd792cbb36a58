-- Plans of which each node is read, and what they have of those that they are made of.
use Rattle.std.specs.Prelude.{ℕ, ◌≡◌, ◌<◌, ◌⊎◌, Option, Some, List, length, map, slice_get, Contains}
use Rattle.algebra.specs.declared.node.Node.{Node}
use Rattle.algebra.specs.Inputs.{left_input, right_input}
use Rattle.algebra.specs.Plans.{Parts}
use Rattle.share_plan.specs.Renumbering.{IsMoved}

-- node i is an input of this node
abbrev pub Reads : Node → ℕ → Type 0
Reads node i = (left_input node ≡ Some i) ⊎ (right_input node ≡ Some i)

-- an output shows node i, or a node reads it
abbrev pub IsRead : Parts → ℕ → Type 0
IsRead plan i = Contains (map (λ out. out.node) plan.outputs) i ⊎ ((k : ℕ) × (node : Node) × (slice_get plan.nodes k ≡ Some node) × Reads node i)

-- each node is shown or read
abbrev pub AreRead : Parts → Type 0
AreRead plan = (i : ℕ) → i < length plan.nodes → IsRead plan i

-- the new nodes are some of the old ones under new numbers, no two under one, with all that they read, and with those that
-- outputs show
pub record IsDropped (old : List Node) (shown : List ℕ) (new : List Node) (shown_now : List ℕ) : Type 0 where
  pub to : ℕ → Option ℕ
  pub moved : (i n : ℕ) (before : Node) → to i ≡ Some n → slice_get old i ≡ Some before → (after : Node) × (slice_get new n ≡ Some after) × IsMoved to before after
  pub from : (n : ℕ) → n < length new → (i : ℕ) × (i < length old) × (to i ≡ Some n)
  pub apart : (i j n : ℕ) → to i ≡ Some n → to j ≡ Some n → i ≡ j
  pub shows : (i : ℕ) → Contains shown i → (n : ℕ) × (to i ≡ Some n) × Contains shown_now n
  pub shown_from : (n : ℕ) → Contains shown_now n → (i : ℕ) × (to i ≡ Some n) × Contains shown i
