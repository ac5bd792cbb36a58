-- What is wanted on a document and what is ready there, by what is published of its nodes.
use Rattle.std.specs.Prelude.{ℕ, ◌≡◌, ◌≢◌, ◌⊎◌, true, [], Option, Some, None, IsSome, Contains, slice_get}
use Rattle.row_values.specs.Rows.{RowList}
use Rattle.aql_typed.specs.Meaning.{Rows}
use Rattle.algebra.specs.declared.node.Node.{Node}
use Rattle.algebra.specs.Inputs.{left_input, right_input, is_conditional}
use Rattle.algebra.specs.Items.{output_nodes}
use Rattle.algebra.specs.Plans.{Parts}

-- published rows: none where nothing is published
abbrev pub rows_of : Option RowList → Rows
rows_of None = []
rows_of (Some list) = list.rows

module _ (plan : Parts) (published : ℕ → Option RowList) where
  -- what is published of an input
  abbrev pub given : Option ℕ → Rows
  given None = []
  given (Some i) = rows_of (published i)

  -- the node asks for node i: each asks for its inputs, but a conditional join for its right one only where its left one is
  -- published with a row
  abbrev pub AsksFor : Node → ℕ → Type 0
  AsksFor node i =
      (left_input node ≡ Some i) ⊎ ((right_input node ≡ Some i) × (is_conditional node ≡ true → given (left_input node) ≢ []))

  -- nodes of outputs are wanted, and what a wanted node asks for
  pub data IsWanted : ℕ → Type 0 where
    output : (n : ℕ) → Contains (output_nodes plan) n → IsWanted n
    input : (k n : ℕ) (node : Node) → slice_get plan.nodes k ≡ Some node → AsksFor node n → IsWanted k → IsWanted n

  -- a node is ready where all that it asks for is published
  abbrev pub IsReady : Node → Type 0
  IsReady node = (i : ℕ) → AsksFor node i → IsSome (published i)
