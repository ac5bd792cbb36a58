-- Nodes of a plan that are marked, since somebody reads them, and plans that are made of them.
use Rattle.std.specs.Prelude.{ℕ, ◌≡◌, ◌<◌, ◌⊎◌, Bool, true, false, Some, List, length, slice_get, slice_index_or, Contains, IfSome}
use Rattle.algebra.specs.declared.node.Node.{Node}
use Rattle.algebra.specs.Inputs.{left_input, right_input, with_inputs}
use Rattle.algebra.specs.Mapping.{new_number, IsMapped, KeepsInputs}
use Rattle.share_plan.specs.Pruning.{Reads}

-- number i is marked
abbrev pub IsMarked : List Bool → ℕ → Type 0
IsMarked marks i = slice_index_or marks i false ≡ true

-- a marked node has its inputs marked
abbrev pub AreClosed : List Node → List Bool → Type 0
AreClosed nodes marks = (i : ℕ) (node : Node) → slice_get nodes i ≡ Some node → IsMarked marks i → IfSome (left_input node) (IsMarked marks) × IfSome (right_input node) (IsMarked marks)

-- what is marked is among some numbers, or a node reads it that is marked
abbrev pub AreFounded : List ℕ → List Node → List Bool → Type 0
AreFounded shown nodes marks = (i : ℕ) → IsMarked marks i → Contains shown i ⊎ ((k : ℕ) × (node : Node) × (slice_get nodes k ≡ Some node) × IsMarked marks k × Reads node i)

-- the second node is the first one, which reads its inputs by the numbers of a list
pub record IsMovedBy (to : List ℕ) (before after : Node) : Type 0 where
  pub number : ℕ → ℕ
  pub same : after ≡ with_inputs number before
  pub left : IfSome (left_input before) (λ i. new_number to i ≡ number i)
  pub right : IfSome (right_input before) (λ i. new_number to i ≡ number i)

-- the old nodes of an order, one after another, each reading its inputs by their new numbers, which stand before it
pub record IsArranged (order : List ℕ) (old new : List Node) (to : List ℕ) : Type 0 where
  pub mapped : IsMapped (Contains order) old new to
  pub moved : (i : ℕ) (before : Node) → slice_get old i ≡ Some before → Contains order i → (after : Node) × (slice_get new (new_number to i) ≡ Some after) × IsMovedBy to before after
  pub closed : (i : ℕ) (before : Node) → slice_get old i ≡ Some before → Contains order i → KeepsInputs (Contains order) before
  pub long : length new ≡ length order
  pub numbered : (k i : ℕ) → slice_get order k ≡ Some i → new_number to i ≡ k

-- the new nodes are the marked ones of the old, no two under one number, each reading its inputs by their new numbers
pub record IsPruned (marks : List Bool) (old new : List Node) (to : List ℕ) : Type 0 where
  pub mapped : IsMapped (IsMarked marks) old new to
  pub moved : (i : ℕ) (before : Node) → slice_get old i ≡ Some before → IsMarked marks i → (after : Node) × (slice_get new (new_number to i) ≡ Some after) × IsMovedBy to before after
  pub from : (n : ℕ) → n < length new → (i : ℕ) × (i < length to) × IsMarked marks i × (new_number to i ≡ n)
  pub apart : (i j : ℕ) → IsMarked marks i → IsMarked marks j → new_number to i ≡ new_number to j → i ≡ j
