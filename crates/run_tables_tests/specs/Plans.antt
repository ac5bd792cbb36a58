-- The plans of the tests.
use Rattle.std.specs.Prelude.{◌≡◌, true, List, [], ◌∷◌}
use Rattle.algebra.specs.declared.node.Node.{Node}
use Rattle.algebra.specs.declared.node.Node.TheVariants.{Doc, Regex, Project, Cross}
use Rattle.algebra.specs.Items.{output_nodes}
use Rattle.algebra.specs.Plans.{Parts}

-- one node, the document, which is an output
pub record IsDocumentPlan (plan : Parts) : Type 0 where
  pub nodes : plan.nodes ≡ Doc ∷ []
  pub outputs : output_nodes plan ≡ 0 ∷ []

-- the document, the matches of a pattern in it, a row without a value, and the conditional join of the last two
abbrev pub joined_nodes : List Node
joined_nodes = Doc ∷ Regex 0 0 0 [] ∷ Project 0 [] ∷ Cross 1 2 true ∷ []

-- these nodes, of which the join is an output
pub record IsJoinedPlan (plan : Parts) : Type 0 where
  pub nodes : plan.nodes ≡ joined_nodes
  pub outputs : output_nodes plan ≡ 3 ∷ []
