-- The rows of nodes on a board, which has an entry for each node of a plan.
use Rattle.std.specs.Prelude.{ℕ, ◌≡◌, ◌<◌, List, [], Option, Some, None, length, slice_index_or, IfSome}
use Rattle.aql_base.specs.Bags.{SameBag}
use Rattle.span_token.specs.Documents.{Doc}
use Rattle.row_values.specs.Rows.{RowList, RowsLieIn}
use Rattle.scalar_ops.specs.Tables.{Lists}
use Rattle.algebra.specs.declared.node.Node.{Node}
use Rattle.algebra.specs.Shapes.{no_shape, shapes_of}
use Rattle.algebra.specs.Values.{val}

-- the list has the rows of node n, in any order, and its columns, and the spans in them lie in the document
pub record IsOf (lists : Lists) (doc : Doc) (nodes : List Node) (n : ℕ) (list : RowList) : Type 0 where
  pub same : SameBag list.rows (val lists doc nodes n)
  pub wide : list.width ≡ (slice_index_or (shapes_of nodes) n no_shape).width
  pub lies : RowsLieIn doc list.rows

-- there is a list, and it has the rows of node n
abbrev pub Holds : Lists → Doc → List Node → ℕ → Option RowList → Type 0
Holds lists doc nodes n None = ⊥
Holds lists doc nodes n (Some list) = IsOf lists doc nodes n list

-- each entry of the board that has rows has those of its node
pub record IsBoardOf (lists : Lists) (doc : Doc) (nodes : List Node) (board : List (Option RowList)) : Type 0 where
  pub each : (n : ℕ) → n < length board → IfSome (slice_index_or board n None) (IsOf lists doc nodes n)

-- the list of no row and no column
abbrev pub empty_row_list : RowList
empty_row_list = record { width = 0; rows = [] }

-- the rows that an entry of a board has; none, of no column, where it has none
abbrev pub rows_there : Option RowList → RowList
rows_there None = empty_row_list
rows_there (Some list) = list
