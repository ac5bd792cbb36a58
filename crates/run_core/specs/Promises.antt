-- What holds of every board that a legal list of events reaches.
use Rattle.std.specs.Prelude.{ℕ, ◌≡◌, List, Some, None, IsSome, IsSomeAnd, All, option_to_list, slice_get}
use Rattle.std.specs.List.{AllZip}
use Rattle.aql_base.specs.Bags.{SameBag}
use Rattle.span_token.specs.Documents.{Doc}
use Rattle.row_values.specs.Rows.{RowList}
use Rattle.aql_typed.specs.Meaning.{Rows}
use Rattle.algebra.specs.Items.{IsItem, IsNeededOn}
use Rattle.algebra.specs.Nodes.{IsPlan}
use Rattle.algebra.specs.Plans.{Parts, AreOutputs}
use Rattle.algebra.specs.Values.{val}
use Rattle.run_core.specs.Boards.{State, IsSized, standing, published_on}
use Rattle.run_core.specs.Events.{MayPublish}
use Rattle.run_core.specs.Histories.{Happening, AreLegal, after_all, IsReachedBy, claims_in_all, rows_in_all}

-- item i is one, and needed
pub record IsNeededAt (plan : Parts) (docs : List Doc) (i : ℕ) : Type 0 where
  pub of_item : IsItem plan docs i
  pub needed : IsNeededOn plan docs i of_item

-- item i is one, and these rows are its value, as a bag
pub record IsValueAt (plan : Parts) (docs : List Doc) (i : ℕ) (list : RowList) : Type 0 where
  pub of_item : IsItem plan docs i
  pub same : SameBag list.rows (val plan.lists of_item.doc plan.nodes of_item.n)

-- some item may be published: with any rows that are its value
pub record MayGoOn (board : State) : Type 0 where
  pub item : ℕ
  pub of_item : IsItem board.plan board.docs item
  pub legal : (list : RowList) → IsValueAt board.plan board.docs item list → MayPublish board item list

-- on document d each output is published
abbrev pub HasOutputs : State → ℕ → Type 0
HasOutputs board d = All (λ out. IsSome (published_on board d out.node)) board.plan.outputs

-- what is meant by the plan's outputs on a document: for each, in their order, the rows that it has there, as a bag
abbrev pub AreMeant : State → Doc → List Rows → Type 0
AreMeant board doc meant = AllZip (λ rows out. SameBag (val board.plan.lists doc board.plan.nodes out.node) rows) meant board.plan.outputs

-- and what is published of them is that
abbrev pub ShowsOutputs : State → ℕ → List Rows → Type 0
ShowsOutputs board d meant = AllZip (λ rows out. IsSomeAnd (published_on board d out.node) (λ list. SameBag list.rows rows)) meant board.plan.outputs

-- of these events exactly one published each published item, with the rows that are there, and exactly one claimed each
-- claimed item, for the worker that is there; what isn't published or claimed, none
pub record HasOnce (board : State) (events : List Happening) : Type 0 where
  pub published : (i : ℕ) → rows_in_all i events ≡ option_to_list (standing board i).rows
  pub claimed : (i : ℕ) → claims_in_all i events ≡ option_to_list (standing board i).claim

-- the new board has the plan, the documents, the claims and the published rows of the old one
pub record Keeps (old new : State) : Type 0 where
  pub plan : new.plan ≡ old.plan
  pub docs : new.docs ≡ old.docs
  pub claims : (i worker : ℕ) → (standing old i).claim ≡ Some worker → (standing new i).claim ≡ Some worker
  pub rows : (i : ℕ) (list : RowList) → (standing old i).rows ≡ Some list → (standing new i).rows ≡ Some list

-- what each legal event leaves true: published items hold their values and are needed, and claimed ones are needed
pub record HoldsValues (board : State) : Type 0 where
  pub sized : IsSized board
  pub values : (i : ℕ) (list : RowList) → (standing board i).rows ≡ Some list → IsValueAt board.plan board.docs i list
  pub published : (i : ℕ) (list : RowList) → (standing board i).rows ≡ Some list → IsNeededAt board.plan board.docs i
  pub claimed : (i worker : ℕ) → (standing board i).claim ≡ Some worker → IsNeededAt board.plan board.docs i

-- the promise of a board
pub record IsSound (board : State) : Type 0 where
  pub planned : IsPlan board.plan.nodes
  pub valid : AreOutputs board.plan.nodes board.plan.outputs
  pub holds : HoldsValues board
  -- whichever legal events reach it, each item was published by exactly one of them and claimed by exactly one, or by none
  pub once : (events : List Happening) → IsReachedBy board events → HasOnce board events
  -- no later event changes what is claimed or published
  pub lasting : (events : List Happening) → AreLegal board events → Keeps board (after_all board events)
  -- where a needed item isn't published, some event that publishes is legal
  pub goes_on : (i : ℕ) → IsNeededAt board.plan board.docs i → (standing board i).rows ≡ None → MayGoOn board
  -- where all outputs are published on a document, their rows are what the plan's outputs mean there
  pub outputs : (d : ℕ) (doc : Doc) (meant : List Rows) → slice_get board.docs d ≡ Some doc → HasOutputs board d → AreMeant board doc meant → ShowsOutputs board d meant
