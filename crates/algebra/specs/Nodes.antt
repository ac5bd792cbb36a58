-- Lists of nodes that make a plan: each reads nodes before it, of shapes that it may read.
use Rattle.std.specs.Prelude.{List, [], ◌∷◌, ◌++◌, length}
use Rattle.algebra.specs.declared.node.Node.{Node}
use Rattle.algebra.specs.declared.shape.Shape.{Shape}
use Rattle.algebra.specs.Inputs.{left_input, right_input, IsAmong}
use Rattle.algebra.specs.Folds.{of_input, had}
use Rattle.algebra.specs.Shapes.{shape_by, no_shape, IsMade}

-- the node may stand after nodes of these shapes
pub record IsNode (shapes : List Shape) (node : Node) : Type 0 where
  pub left_below : IsAmong (length shapes) (left_input node)
  pub right_below : IsAmong (length shapes) (right_input node)
  pub made : IsMade node (of_input no_shape shapes (left_input node)) (of_input no_shape shapes (right_input node))

-- each node may stand after those before it, the first after nodes of these shapes
abbrev pub ArePlanned : List Shape → List Node → Type 0
ArePlanned shapes [] = Unit {0}
ArePlanned shapes (node ∷ nodes) = IsNode shapes node × ArePlanned (shapes ++ had no_shape shape_by shapes node ∷ []) nodes

abbrev pub IsPlan : List Node → Type 0
IsPlan nodes = ArePlanned [] nodes
