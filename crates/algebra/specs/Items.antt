-- Items: the nodes of a plan on documents, numbered document by document, and what is known of the rows of a node's inputs.
use Rattle.std.specs.Prelude.{ℕ, ◌≡◌, ◌≢◌, ◌+◌, ◌*◌, true, List, [], Option, Some, map, length, slice_get}
use Rattle.aql_base.specs.Bags.{SameBag}
use Rattle.span_token.specs.Documents.{Doc}
use Rattle.row_values.specs.Rows.{RowList, RowsLieIn}
use Rattle.scalar_ops.specs.Tables.{Lists}
use Rattle.aql_typed.specs.Meaning.{Rows}
use Rattle.algebra.specs.declared.node.Node.{Node}
use Rattle.algebra.specs.Folds.{of_input}
use Rattle.algebra.specs.Inputs.{left_input, right_input, is_conditional}
use Rattle.algebra.specs.Needed.{IsNeeded}
use Rattle.algebra.specs.Plans.{Parts}
use Rattle.algebra.specs.Shapes.{no_shape, shapes_of}
use Rattle.algebra.specs.Values.{all_values}

-- the nodes of a plan's outputs
abbrev pub output_nodes : Parts → List ℕ
output_nodes plan = map (λ out. out.node) plan.outputs

-- there is an item for each node on each document
abbrev pub item_count : Parts → List Doc → ℕ
item_count plan docs = length docs * length plan.nodes

-- the item of node n on document d
abbrev pub item_at : Parts → ℕ → ℕ → ℕ
item_at plan d n = d * length plan.nodes + n

-- item i is node n, which is `node`, on document d, which is `doc`
pub record IsItem (plan : Parts) (docs : List Doc) (i : ℕ) : Type 0 where
  pub d : ℕ
  pub n : ℕ
  pub doc : Doc
  pub node : Node
  pub is : i ≡ d * length plan.nodes + n
  pub doc_is : slice_get docs d ≡ Some doc
  pub node_is : slice_get plan.nodes n ≡ Some node

-- the item's node is needed on its document
abbrev pub IsNeededOn : (plan : Parts) (docs : List Doc) (i : ℕ) → IsItem plan docs i → Type 0
IsNeededOn plan docs i of_item = IsNeeded plan.lists of_item.doc plan.nodes (output_nodes plan) of_item.n

-- the list is what an input has: its columns, spans in the document, and its value, as a bag; no row of no column where there
-- is no input. Of node n itself it is said as of an input `Some n`
pub record HasInput (lists : Lists) (doc : Doc) (nodes : List Node) (input : Option ℕ) (list : RowList) : Type 0 where
  pub width : list.width ≡ (of_input no_shape (shapes_of nodes) input).width
  pub lies : RowsLieIn doc list.rows
  pub same : SameBag list.rows (of_input [] (all_values lists doc nodes) input)

-- the rows are what the node asks for: its inputs' values, as bags, but any on the right of a conditional join whose left rows
-- are none
pub record AreGiven (lists : Lists) (doc : Doc) (nodes : List Node) (node : Node) (left right : Rows) : Type 0 where
  pub left_is : SameBag left (of_input [] (all_values lists doc nodes) (left_input node))
  pub right_is : (is_conditional node ≡ true → left ≢ []) → SameBag right (of_input [] (all_values lists doc nodes) (right_input node))
