-- How a board is filled: what a node asks for, what it is made of, and what holds of the board from node to node.
use Rattle.std.specs.Prelude.{ℕ, ◌≡◌, ◌+◌, ◌<◌, ◌≤◌, Bool, true, false, IsTrue, List, [], Option, Some, None, length, map, slice_get, slice_index_or, IsSome, Contains, ◌⊎◌}
use Rattle.aql_base.specs.Bags.{SameBag}
use Rattle.span_token.specs.Documents.{Doc}
use Rattle.row_values.specs.Rows.{RowList, RowsLieIn}
use Rattle.scalar_ops.specs.Tables.{Lists}
use Rattle.algebra.specs.declared.node.Node.{Node}
use Rattle.algebra.specs.declared.node.Node.TheVariants.{Cross, DictPart, Project, Regex, Select, TokenRegex}
use Rattle.algebra.specs.Folds.{of_input}
use Rattle.algebra.specs.Inputs.{left_input, right_input, is_conditional}
use Rattle.algebra.specs.Needed.{IsNeeded}
use Rattle.algebra.specs.Plans.{Parts}
use Rattle.algebra.specs.Shapes.{no_shape, shapes_of}
use Rattle.algebra.specs.Values.{all_values}
use Rattle.plan_operators.specs.Readers.{AreCounted, number_of_readers, number_waiting, waits}
use Rattle.plan_operators.specs.Boards.{IsBoardOf, empty_row_list}

-- an input, where there is one, has rows on the board
abbrev pub IsThere : List (Option RowList) → Option ℕ → Type 0
IsThere board None = Unit {0}
IsThere board (Some i) = IsSome (slice_index_or board i None)

-- the rows that an entry of a board has; none, of `width` columns, where it has none
abbrev pub rows_or_none : ℕ → Option RowList → RowList
rows_or_none width None = record { width = width; rows = [] }
rows_or_none width (Some list) = list

-- the rows that an input has on the board; none, of its columns, where it has none there, and of no column without an input
abbrev pub input_on : List Node → List (Option RowList) → Option ℕ → RowList
input_on nodes board None = empty_row_list
input_on nodes board (Some i) = rows_or_none (slice_index_or (shapes_of nodes) i no_shape).width (slice_index_or board i None)

-- the list has the rows of an input, in any order, and its columns, and the spans in them lie in the document
pub record IsInput (lists : Lists) (doc : Doc) (nodes : List Node) (input : Option ℕ) (list : RowList) : Type 0 where
  pub same : SameBag list.rows (of_input [] (all_values lists doc nodes) input)
  pub wide : list.width ≡ (of_input no_shape (shapes_of nodes) input).width
  pub lies : RowsLieIn doc list.rows

-- the left input of a conditional join has no row, so the right one isn't asked for; the list has the columns of that one
pub record IsSpared (lists : Lists) (doc : Doc) (nodes : List Node) (node : Node) (list : RowList) : Type 0 where
  pub conditional : is_conditional node ≡ true
  pub none : of_input [] (all_values lists doc nodes) (left_input node) ≡ []
  pub wide : list.width ≡ (of_input no_shape (shapes_of nodes) (right_input node)).width
  pub lies : RowsLieIn doc list.rows

-- the list has the rows of the right input of a node, or stands for them where that input isn't asked for
abbrev pub IsRightInput : Lists → Doc → List Node → Node → RowList → Type 0
IsRightInput lists doc nodes node list = IsInput lists doc nodes (right_input node) list ⊎ IsSpared lists doc nodes node list

-- the rows are those that the board has of an input, and the other input is another one
pub record IsGivenUp (input other_input : Option ℕ) (rows : RowList) (board : List (Option RowList)) : Type 0 where
  pub node : ℕ
  pub is_input : input ≡ Some node
  pub rows_are : slice_index_or board node None ≡ Some rows
  pub other : other_input ≡ input → ⊥

-- the rows of an input: those that were given up, and else those that it has on the board
abbrev pub rows_found : List Node → List (Option RowList) → Option ℕ → Option RowList → RowList
rows_found nodes board input None = input_on nodes board input
rows_found nodes board input (Some list) = list

-- node n has its rows on the board, and they are none
pub record IsEmptyOn (board : List (Option RowList)) (n : ℕ) : Type 0 where
  pub there : n < length board
  pub list : RowList
  pub list_is : slice_index_or board n None ≡ Some list
  pub none : list.rows ≡ []

-- an input, where there is one, has its rows on the board, and they are none
abbrev pub IsEmptyInput : List (Option RowList) → Option ℕ → Type 0
IsEmptyInput board None = Unit {0}
IsEmptyInput board (Some i) = IsEmptyOn board i

-- the board has the rows of each input that the node asks for
pub record HasAsked (board : List (Option RowList)) (node : Node) : Type 0 where
  pub left : IsThere board (left_input node)
  pub right : IsThere board (right_input node) ⊎ ((is_conditional node ≡ true) × IsEmptyInput board (left_input node))

-- the node is a selection
abbrev pub is_selection : Node → Bool
is_selection (Select input conds) = true
is_selection node = false

-- the node is a projection
abbrev pub is_projection : Node → Bool
is_projection (Project input items) = true
is_projection node = false

-- the node may pass its rows on to the next one, row by row: a product to a selection, what is found to a projection
abbrev pub does_pass : Node → Node → Bool
does_pass (Cross left right conditional) next = is_selection next
does_pass (Regex input column pattern groups) next = is_projection next
does_pass (TokenRegex input column low high pattern groups) next = is_projection next
does_pass (DictPart input number) next = is_projection next
does_pass node next = false

-- node `next` reads node n on the left, and is of a kind to which node n may pass its rows on, row by row
pub record IsPassing (nodes : List Node) (n next : ℕ) : Type 0 where
  pub passes : (node other : Node) → slice_get nodes n ≡ Some node → slice_get nodes next ≡ Some other → IsTrue (does_pass node other)
  pub from_it : (other : Node) → slice_get nodes next ≡ Some other → left_input other ≡ Some n

-- node n passes its rows on to node `next`, has none on the board, and at most one reader of it is noted
pub record IsPassedOn (nodes : List Node) (board : List (Option RowList)) (readers : List ℕ) (n next : ℕ) : Type 0 where
  pub passing : IsPassing nodes n next
  pub absent : slice_index_or board n None ≡ None
  pub alone : number_of_readers readers n ≤ 1

-- the rows of node n are made of those of the inputs of `source`: node n itself, or the one that passes its rows on to it
abbrev pub IsSourceOf : List Node → List (Option RowList) → List ℕ → ℕ → ℕ → Type 0
IsSourceOf nodes board readers n source = (source ≡ n) ⊎ IsPassedOn nodes board readers source n

-- node i is an input for which the node asks, and has no rows on the board
pub record IsAbsentInput (board : List (Option RowList)) (node : Node) (i : ℕ) : Type 0 where
  pub absent : slice_index_or board i None ≡ None
  pub asked : (left_input node ≡ Some i) ⊎ ((right_input node ≡ Some i) × (is_conditional node ≡ true → IsThere board (left_input node) × (IsEmptyInput board (left_input node) → ⊥)))

-- rows that nobody reads any more were taken off a board, and node m has fewer readers by `removed m`
pub record IsTakenOff (removed : ℕ → ℕ) (old : List (Option RowList)) (old_readers : List ℕ) (new : List (Option RowList)) (new_readers : List ℕ) : Type 0 where
  pub long : length new ≡ length old
  pub readers_long : length new_readers ≡ length old_readers
  pub less : (m : ℕ) → (slice_index_or new m None ≡ None) ⊎ (slice_index_or new m None ≡ slice_index_or old m None)
  pub unread : (m : ℕ) → slice_index_or new m None ≡ None → IsSome (slice_index_or old m None) → number_of_readers new_readers m ≡ 0
  pub fewer : (m : ℕ) → number_of_readers old_readers m ≡ number_of_readers new_readers m + removed m

-- the nodes that the outputs of a plan show, in their order
abbrev pub shown_by : Parts → List ℕ
shown_by plan = map (λ out. out.node) plan.outputs

-- node n of a plan is needed on a document
abbrev pub IsNeededNode : Doc → Parts → ℕ → Type 0
IsNeededNode doc plan n = IsNeeded plan.lists doc plan.nodes (shown_by plan) n

-- rows on the board are those of their nodes, which are needed; nodes that wait, and outputs, are noted as readers
pub record IsStanding (doc : Doc) (plan : Parts) (board : List (Option RowList)) (readers : List ℕ) : Type 0 where
  pub long : length board ≡ length plan.nodes
  pub readers_long : length readers ≡ length plan.nodes
  pub has : IsBoardOf plan.lists doc plan.nodes board
  pub needed : (n : ℕ) → IsSome (slice_index_or board n None) → IsNeededNode doc plan n
  pub counted : AreCounted plan.nodes (shown_by plan) (waits board readers) readers

-- node i, for which node `by` asks, has a lower number than that one, waits, and is needed
pub record IsAskedBy (doc : Doc) (plan : Parts) (board : List (Option RowList)) (readers : List ℕ) (by i : ℕ) : Type 0 where
  pub lower : i < by
  pub waiting : waits board readers i ≡ true
  pub needed : IsNeededNode doc plan i

-- node n has its rows on the board now; fewer nodes wait, none of which didn't before, and what outputs show stays
pub record IsEvaluated (doc : Doc) (plan : Parts) (n : ℕ) (old : List (Option RowList)) (old_readers : List ℕ) (new : List (Option RowList)) (new_readers : List ℕ) : Type 0 where
  pub stands : IsStanding doc plan new new_readers
  pub there : IsSome (slice_index_or new n None)
  pub less : (k : ℕ) → waits new new_readers k ≡ true → waits old old_readers k ≡ true
  pub fewer : number_waiting plan.nodes new new_readers < number_waiting plan.nodes old old_readers
  pub kept : (m : ℕ) → Contains (shown_by plan) m → IsSome (slice_index_or old m None) → IsSome (slice_index_or new m None)
