-- Plans that grow by rewriting or lowering, and what the nodes of the new plan stand for.
use Rattle.std.specs.Prelude.{ℕ, ◌≡◌, ◌<◌, List, ◌++◌, length, slice_index_or}
use Rattle.aql_base.specs.Bags.{SameBag}
use Rattle.span_token.specs.Documents.{Doc}
use Rattle.scalar_ops.specs.Tables.{Lists}
use Rattle.aql_typed.specs.Meaning.{Rows}
use Rattle.algebra.specs.declared.node.Node.{Node}
use Rattle.algebra.specs.declared.shape.Shape.{Shape}
use Rattle.algebra.specs.Inputs.{left_input, right_input, IsAmong}
use Rattle.algebra.specs.Folds.{had}
use Rattle.algebra.specs.Values.{val, value_after}
use Rattle.algebra.specs.Shapes.{shape_by, no_shape, shapes_of}
use Rattle.algebra.specs.Nodes.{IsNode, IsPlan}

-- nodes were put after the others
pub record Grows (old new : List Node) : Type 0 where
  pub added : List Node
  pub grown : new ≡ old ++ added

-- node n is there, has this shape, and on each document these rows, as a bag
pub record Has (nodes : List Node) (n : ℕ) (shape : Shape) (rows : Lists → Doc → Rows) : Type 0 where
  pub there : n < length nodes
  pub shaped : slice_index_or (shapes_of nodes) n no_shape ≡ shape
  pub same : (lists : Lists) (doc : Doc) → SameBag (val lists doc nodes n) (rows lists doc)

-- node n of the new plan stands for a node that would be put after the old ones
pub record Stands (old new : List Node) (n : ℕ) (node : Node) : Type 0 where
  pub grows : Grows old new
  pub has : Has new n (had no_shape shape_by (shapes_of old) node) (λ lists doc. value_after lists doc old node)

-- the node is node n of a plan
pub record IsAt (nodes : List Node) (n : ℕ) (node : Node) : Type 0 where
  pub plan : IsPlan nodes
  pub stands : Stands nodes nodes n node
  pub valid : IsNode (shapes_of nodes) node
  pub left_lower : IsAmong n (left_input node)
  pub right_lower : IsAmong n (right_input node)
