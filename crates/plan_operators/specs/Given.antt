-- What an operator is given.
use Rattle.std.specs.Prelude.{◌≡◌}
use Rattle.row_values.specs.Rows.{RowList}
use Rattle.algebra.specs.declared.node.Node.{Node}
use Rattle.algebra.specs.declared.shape.Shape.{Shape}
use Rattle.algebra.specs.Shapes.{IsMade}
use Rattle.plan_operators.specs.declared.input.Input.{Input}
use Rattle.plan_operators.specs.declared.input.Input.TheVariants.{Given, Lent}

-- the rows of an input
abbrev pub input_rows : Input → RowList
input_rows (Given rows) = rows
input_rows (Lent rows) = rows.now

-- the lists have the widths of shapes that the node may read
pub record MayRead (node : Node) (left right : RowList) : Type 0 where
  pub left_shape : Shape
  pub right_shape : Shape
  pub left_width : left.width ≡ left_shape.width
  pub right_width : right.width ≡ right_shape.width
  pub made : IsMade node left_shape right_shape
