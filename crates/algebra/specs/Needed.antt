-- Which nodes have to be evaluated on a document.
use Rattle.std.specs.Prelude.{ℕ, ◌≡◌, ◌≢◌, ◌⊎◌, true, List, [], Some, Contains, slice_get}
use Rattle.span_token.specs.Documents.{Doc}
use Rattle.scalar_ops.specs.Tables.{Lists}
use Rattle.algebra.specs.declared.node.Node.{Node}
use Rattle.algebra.specs.Inputs.{left_input, right_input, is_conditional}
use Rattle.algebra.specs.Folds.{of_input}
use Rattle.algebra.specs.Values.{all_values}

module _ (lists : Lists) (doc : Doc) (nodes : List Node) where
  -- the node asks for node i: each asks for its inputs, but a conditional join whose left input has no row asks for the
  -- left one alone
  abbrev pub Asks : Node → ℕ → Type 0
  Asks node i =
      (left_input node ≡ Some i) ⊎ ((right_input node ≡ Some i) × (is_conditional node ≡ true → of_input [] (all_values lists doc nodes) (left_input node) ≢ []))

  -- nodes of outputs are needed, and what a needed node asks for
  pub data IsNeeded (outputs : List ℕ) : ℕ → Type 0 where
    output : (i : ℕ) → Contains outputs i → IsNeeded outputs i
    input : (k i : ℕ) (node : Node) → slice_get nodes k ≡ Some node → Asks node i → IsNeeded outputs k → IsNeeded outputs i
