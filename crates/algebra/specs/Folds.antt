-- What each node of a list has by a rule, which goes by what its inputs have.
use Rattle.std.specs.Prelude.{ℕ, List, [], ◌∷◌, ◌++◌, Option, Some, None, slice_index_or}
use Rattle.algebra.specs.declared.node.Node.{Node}
use Rattle.algebra.specs.Inputs.{left_input, right_input}

-- what an input has, where `all` is what all nodes have by their numbers
abbrev pub of_input : {A : Type 0} → A → List A → Option ℕ → A
of_input nothing all None = nothing
of_input nothing all (Some i) = slice_index_or all i nothing

module _ {A : Type 0} (nothing : A) (rule : Node → A → A → A) where
  -- what a node has, where `all` is what the nodes before it have
  abbrev pub had : List A → Node → A
  had all node = rule node (of_input nothing all (left_input node)) (of_input nothing all (right_input node))

  -- what all nodes have, after `all`
  abbrev pub all_from : List A → List Node → List A
  all_from all [] = all
  all_from all (node ∷ nodes) = all_from (all ++ had all node ∷ []) nodes
