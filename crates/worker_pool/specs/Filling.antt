-- Boards that are filled document by document.
use Rattle.std.specs.Prelude.{ℕ, ◌≡◌, ◌≢◌, ◌+◌, ◌<◌, ◌≤◌, is_some, List, Option, Some, IsSome, slice_get}
use Rattle.span_token.specs.Documents.{Doc}
use Rattle.row_values.specs.Rows.{RowList}
use Rattle.algebra.specs.declared.node.Node.{Node}
use Rattle.algebra.specs.Items.{item_at, output_nodes}
use Rattle.algebra.specs.Needed.{IsNeeded}
use Rattle.algebra.specs.Plans.{Parts}
use Rattle.run_core.specs.Boards.{State, untouched, standing}
use Rattle.run_core.specs.Wanted.{IsReady}
use Rattle.run_tables.specs.Items.{ItemRows}
use Rattle.worker_pool.specs.Evaluations.{AreOutputRows}
use Rattle.worker_pool.specs.Pages.{IsPage, rows_on}

-- what is needed on document d is published
abbrev pub IsDoneOn : Parts → List Doc → State → ℕ → Type 0
IsDoneOn plan docs board d =
    (doc : Doc) (n : ℕ) → slice_get docs d ≡ Some doc → IsNeeded plan.lists doc plan.nodes (output_nodes plan) n → IsSome (standing board (item_at plan d n)).rows

-- the documents before d are done, and from item `first` on nothing is; what is published is claimed, and nothing else
pub record IsFilledTo (plan : Parts) (docs : List Doc) (d first : ℕ) (board : State) : Type 0 where
  pub plan_is : board.plan ≡ plan
  pub docs_are : board.docs ≡ docs
  pub before : (e : ℕ) → e < d → IsDoneOn plan docs board e
  pub together : (i : ℕ) → is_some (standing board i).claim ≡ is_some (standing board i).rows
  pub behind : (i : ℕ) → first ≤ i → standing board i ≡ untouched

-- the board while document d is filled: it has the results of the page, and all that their nodes ask for
pub record IsFilling (plan : Parts) (docs : List Doc) (d : ℕ) (board : State) (known : List (Option ItemRows)) : Type 0 where
  pub filled : IsFilledTo plan docs d (item_at plan (d + 1) 0) board
  pub page : IsPage plan docs d known
  pub shown : (n : ℕ) → (standing board (item_at plan d n)).rows ≡ rows_on known n
  pub closed : (n : ℕ) (node : Node) → slice_get plan.nodes n ≡ Some node → IsSome (rows_on known n) → IsReady plan (rows_on known) node

-- the item is claimed and has these rows, and nothing else has changed
pub record HasPut (old new : State) (item : ℕ) (list : RowList) : Type 0 where
  pub plan : new.plan ≡ old.plan
  pub docs : new.docs ≡ old.docs
  pub rows : (standing new item).rows ≡ Some list
  pub claim : IsSome (standing new item).claim
  pub others : (i : ℕ) → i ≢ item → standing new i ≡ standing old i

-- the lists are the rows of the outputs on document d
abbrev pub IsAnswerOn : Parts → List Doc → ℕ → List RowList → Type 0
IsAnswerOn plan docs d shown = (doc : Doc) → slice_get docs d ≡ Some doc → AreOutputRows plan doc shown
