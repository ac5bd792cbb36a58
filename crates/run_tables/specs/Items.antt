-- Results of items: rows that are what an item is worth, and the results of its inputs from which an item may be computed.
use Rattle.std.specs.Prelude.{ℕ, ◌≡◌, ◌⊎◌, true, List, [], Option, Some, None, IfSome, option_map}
use Rattle.span_token.specs.Documents.{Doc}
use Rattle.row_values.specs.Rows.{RowList}
use Rattle.algebra.specs.declared.node.Node.{Node}
use Rattle.algebra.specs.Inputs.{left_input, right_input, is_conditional}
use Rattle.algebra.specs.Items.{IsItem, IsNeededOn, HasInput, item_at}
use Rattle.algebra.specs.Plans.{Parts}

-- a plan without a node
abbrev pub no_plan : Parts
no_plan = record { nodes = []; lists = record { patterns = []; dicts = [] }; outputs = [] }

-- an item's number, and rows for it
pub record ItemRows : Type 0 where
  pub item : ℕ
  pub rows : RowList

-- the rows are what item i is worth, as a bag, with the columns of its node, and their spans lie in its document; and the
-- item is needed
pub record IsResult (plan : Parts) (docs : List Doc) (i : ℕ) (list : RowList) : Type 0 where
  pub of_item : IsItem plan docs i
  pub needed : IsNeededOn plan docs i of_item
  pub has : HasInput plan.lists of_item.doc plan.nodes (Some of_item.n) list

-- a result is that of an input's item on document d; there is none where there is no input
abbrev pub IsOfInput : Parts → ℕ → Option ℕ → Option ItemRows → Type 0
IsOfInput plan d input found = option_map (λ result. result.item) found ≡ option_map (item_at plan d) input

-- a conditional join whose left result has no row goes without a right one
pub record GoesWithout (node : Node) (left right : Option ItemRows) : Type 0 where
  pub conditional : is_conditional node ≡ true
  pub left_empty : IfSome left (λ result. result.rows.rows ≡ [])
  pub right_absent : right ≡ None

-- item i is needed, and the results are those of its node's inputs on the same document
pub record MayCompute (plan : Parts) (docs : List Doc) (i : ℕ) (left right : Option ItemRows) : Type 0 where
  pub of_item : IsItem plan docs i
  pub needed : IsNeededOn plan docs i of_item
  pub of_left : IsOfInput plan of_item.d (left_input of_item.node) left
  pub of_right : IsOfInput plan of_item.d (right_input of_item.node) right ⊎ GoesWithout of_item.node left right
