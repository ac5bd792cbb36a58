-- What the evaluation of a plan on documents comes to: a board, and for each document the rows of the plan's outputs.
use Rattle.std.specs.Prelude.{ℕ, ◌≡◌, ◌↔◌, List, Some, IsSome}
use Rattle.std.specs.List.{AllZip}
use Rattle.span_token.specs.Documents.{Doc}
use Rattle.row_values.specs.Rows.{RowList}
use Rattle.algebra.specs.Items.{HasInput}
use Rattle.algebra.specs.Plans.{Parts}
use Rattle.run_core.specs.Boards.{State, standing}
use Rattle.run_core.specs.Histories.{IsReached}
use Rattle.run_core.specs.Promises.{IsNeededAt}

-- a board, and for each document and each output its rows
pub record Evaluated : Type 0 where
  pub board : State
  pub answers : List (List RowList)

-- for each output of a plan, in order, its rows on a document: its node's value, as a bag, with the node's columns and spans
-- that lie in the document
abbrev pub AreOutputRows : Parts → Doc → List RowList → Type 0
AreOutputRows plan doc shown = AllZip (λ out list. HasInput plan.lists doc plan.nodes (Some out.node) list) plan.outputs shown

-- and this on each document, in order
abbrev pub AreAnswers : Parts → List Doc → List (List RowList) → Type 0
AreAnswers plan docs answers = AllZip (AreOutputRows plan) docs answers

-- exactly the needed items are claimed, and exactly they are published
pub record IsComplete (board : State) : Type 0 where
  pub claimed : (i : ℕ) → IsSome (standing board i).claim ↔ IsNeededAt board.plan board.docs i
  pub published : (i : ℕ) → IsSome (standing board i).rows ↔ IsNeededAt board.plan board.docs i

-- the plan is evaluated on the documents: the board is one of them that a legal list of events reaches, it is complete, and
-- the answers are what the plan's outputs show
pub record IsEvaluation (plan : Parts) (docs : List Doc) (done : Evaluated) : Type 0 where
  pub plan_is : done.board.plan ≡ plan
  pub docs_are : done.board.docs ≡ docs
  pub reached : IsReached done.board
  pub complete : IsComplete done.board
  pub answers : AreAnswers plan docs done.answers
