-- Walks from the outputs of a plan down to what they need, and the nodes in the order in which a walk comes back from them.
use Rattle.std.specs.Prelude.{ℕ, ◌≡◌, ◌<◌, ◌+◌, ◌*◌, ◌-◌, Bool, false, cond, not, Option, Some, None, List, length, take, slice_get, slice_index_or, count_by, All, Contains, IfSome}
use Rattle.std.specs.List.{AllPairs}
use Rattle.algebra.specs.declared.node.Node.{Node}
use Rattle.algebra.specs.Inputs.{left_input, right_input}
use Rattle.share_plan.specs.Marks.{IsMarked}

-- a way leads from an output to node i; wherever it goes to the right, the left input is among the nodes before it
pub data IsCalled (nodes : List Node) (shown before : List ℕ) : ℕ → Type 0 where
  output : (i : ℕ) → Contains shown i → IsCalled nodes shown before i
  left : (k i : ℕ) (node : Node) → slice_get nodes k ≡ Some node → left_input node ≡ Some i → IsCalled nodes shown before k → IsCalled nodes shown before i
  right : (k i : ℕ) (node : Node) → slice_get nodes k ≡ Some node → right_input node ≡ Some i → IfSome (left_input node) (Contains before) → IsCalled nodes shown before k
      → IsCalled nodes shown before i

-- node i isn't among the nodes before it, and its inputs are
pub record IsReady (nodes : List Node) (before : List ℕ) (i : ℕ) : Type 0 where
  pub node : Node
  pub at : slice_get nodes i ≡ Some node
  pub fresh : Contains before i → ⊥
  pub left : IfSome (left_input node) (Contains before)
  pub right : IfSome (right_input node) (Contains before)

-- each node of an order is so, and a way leads to it
abbrev pub AreReady : List Node → List ℕ → Type 0
AreReady nodes order = (k i : ℕ) → slice_get order k ≡ Some i → IsReady nodes (take k order) i

abbrev pub AreCalled : List Node → List ℕ → List ℕ → Type 0
AreCalled nodes shown order = (k i : ℕ) → slice_get order k ≡ Some i → IsCalled nodes shown (take k order) i

-- nodes that were gone through, in their order, and marks on them
pub record IsWalked (nodes : List Node) (shown order : List ℕ) (marks : List Bool) : Type 0 where
  pub long : length marks ≡ length nodes
  pub ready : AreReady nodes order
  pub called : AreCalled nodes shown order
  pub marked : (i : ℕ) → Contains order i → IsMarked marks i
  pub listed : (i : ℕ) → IsMarked marks i → Contains order i

-- all that the outputs need was gone through
pub record IsOrder (nodes : List Node) (shown order : List ℕ) (marks : List Bool) : Type 0 where
  pub walked : IsWalked nodes shown order marks
  pub all : (i : ℕ) → Contains shown i → IsMarked marks i

-- node i is on the way down
pub record IsWaiting (nodes : List Node) (shown order : List ℕ) (marks : List Bool) (i : ℕ) : Type 0 where
  pub there : i < length nodes
  pub fresh : IsMarked marks i → ⊥
  pub called : IsCalled nodes shown order i

-- a way down: each node has a lower number than those before it
pub record IsWay (nodes : List Node) (shown order : List ℕ) (marks : List Bool) (way : List ℕ) : Type 0 where
  pub each : All (IsWaiting nodes shown order marks) way
  pub down : AllPairs (λ upper lower. lower < upper) way

-- an input without a mark
abbrev pub unmarked : List Bool → Option ℕ → Option ℕ
unmarked marks None = None
unmarked marks (Some i) = cond (slice_index_or marks i false) None (Some i)

-- the first of two inputs without a mark
abbrev pub first_of : Option ℕ → Option ℕ → Option ℕ
first_of None other = other
first_of (Some i) other = Some i

abbrev pub missing : List Bool → Node → Option ℕ
missing marks node = first_of (unmarked marks (left_input node)) (unmarked marks (right_input node))

-- what is left of a walk: it falls with each step
abbrev pub steps_left : List Bool → List ℕ → ℕ
steps_left marks way = count_by not marks * (length marks + 1) + slice_index_or way (length way - 1) 0
