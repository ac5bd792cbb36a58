-- The plan of items without a row.
use Rattle.std.specs.Prelude.{◌≡◌, List, [], ◌∷◌}
use Rattle.algebra.specs.declared.node.Node.{Node}
use Rattle.algebra.specs.declared.node.Node.TheVariants.{Doc, Regex}
use Rattle.algebra.specs.Items.{output_nodes}
use Rattle.algebra.specs.Plans.{Parts}

-- the document, and the matches in it of a pattern that isn't there
abbrev pub empty_nodes : List Node
empty_nodes = Doc ∷ Regex 0 0 0 [] ∷ []

-- these nodes, of which the matches are an output
pub record IsEmptyPlan (plan : Parts) : Type 0 where
  pub nodes : plan.nodes ≡ empty_nodes
  pub patterns : plan.lists.patterns ≡ []
  pub outputs : output_nodes plan ≡ 1 ∷ []
