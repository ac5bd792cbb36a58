-- Lists of events on a board, from the first to the last.
use Rattle.std.specs.Prelude.{ℕ, ◌≡◌, ◌<◌, ◌^◌, List, [], ◌∷◌, Option, Some, None, if◌then◌else◌, ◌==◌, filter_map, option_map}
use Rattle.row_values.specs.Rows.{RowList}
use Rattle.algebra.specs.Items.{item_count}
use Rattle.algebra.specs.Nodes.{IsPlan}
use Rattle.algebra.specs.Plans.{AreOutputs}
use Rattle.run_core.specs.declared.event.Event.{Event}
use Rattle.run_core.specs.declared.event.Event.TheVariants.{Claim, Publish}
use Rattle.run_core.specs.Boards.{State, fresh}
use Rattle.run_core.specs.Events.{IsLegal, after}

-- an event, with the rows that it publishes
pub record Happening : Type 0 where
  pub event : Event
  pub rows : Option RowList

-- an event and its rows, however they are held
abbrev pub happening : {A : Type 0} → (A → RowList) → Event × Option A → Happening
happening seen pair = record { event = pair.0; rows = option_map seen pair.1 }

-- each event is legal on the board that those before it leave
abbrev pub AreLegal : State → List Happening → Type 0
AreLegal board [] = Unit {0}
AreLegal board (h ∷ later) = IsLegal board h.event h.rows × AreLegal (after board h.event h.rows) later

-- the board that they all leave
abbrev pub after_all : State → List Happening → State
after_all board [] = board
after_all board (h ∷ later) = after_all (after board h.event h.rows) later

-- a legal list of events reaches the board from the one with nothing claimed and nothing published
pub record IsReachedBy (board : State) (events : List Happening) : Type 0 where
  pub legal : AreLegal (fresh board.plan board.docs) events
  pub is : board ≡ after_all (fresh board.plan board.docs) events

-- some legal list of events does
pub record IsReached (board : State) : Type 0 where
  pub events : List Happening
  pub by : IsReachedBy board events

-- what every board keeps: its plan is one, it has fewer than 2^32 items, and some legal list of events reaches it
pub record IsBoard (board : State) : Type 0 where
  pub planned : IsPlan board.plan.nodes
  pub outputs : AreOutputs board.plan.nodes board.plan.outputs
  pub few : item_count board.plan board.docs < 2 ^ 32
  pub reached : IsReached board

-- the worker that claims item i by an event
abbrev pub claim_in : ℕ → Event → Option ℕ
claim_in i (Claim worker item) = if item == i then Some worker else None
claim_in i event = None

-- the rows of item i that an event publishes
abbrev pub rows_in : ℕ → Event → Option RowList → Option RowList
rows_in i (Publish worker item) rows = if item == i then rows else None
rows_in i event rows = None

-- all claims of item i, and all its published rows, one for each event that has some
abbrev pub claims_in_all : ℕ → List Happening → List ℕ
claims_in_all i events = filter_map (λ h. claim_in i h.event) events

abbrev pub rows_in_all : ℕ → List Happening → List RowList
rows_in_all i events = filter_map (λ h. rows_in i h.event h.rows) events
