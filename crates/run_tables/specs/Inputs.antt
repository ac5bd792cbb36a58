-- The rows from which an item is computed.
use Rattle.std.specs.Prelude.{ℕ, List, [], Option, Some, None}
use Rattle.row_values.specs.Rows.{RowList}
use Rattle.algebra.specs.declared.node.Node.{Node}
use Rattle.algebra.specs.Folds.{of_input}
use Rattle.algebra.specs.Shapes.{no_shape, shapes_of}
use Rattle.run_tables.specs.Items.{ItemRows}

-- the rows of an input's result; no row, of the input's columns, where there is no result
abbrev pub rows_given : List Node → Option ℕ → Option ItemRows → RowList
rows_given nodes input None = record { width = (of_input no_shape (shapes_of nodes) input).width; rows = [] }
rows_given nodes input (Some found) = found.rows
