-- Events on a board: when each is legal, and what it does.
use Rattle.std.specs.Prelude.{ℕ, ◌≡◌, List, Option, Some, None, IsSome, set, slice_index_or}
use Rattle.aql_base.specs.Bags.{SameBag}
use Rattle.row_values.specs.Rows.{RowList}
use Rattle.algebra.specs.Inputs.{left_input, right_input}
use Rattle.algebra.specs.Items.{IsItem}
use Rattle.algebra.specs.Operators.{op}
use Rattle.run_core.specs.declared.event.Event.{Event}
use Rattle.run_core.specs.declared.event.Event.TheVariants.{Claim, Publish, Late}
use Rattle.run_core.specs.Boards.{Standing, State, untouched, standing, published_on}
use Rattle.run_core.specs.Wanted.{given, IsWanted, IsReady}

-- an item may be claimed where it is wanted, ready and unclaimed
pub record MayClaim (board : State) (i : ℕ) : Type 0 where
  pub of_item : IsItem board.plan board.docs i
  pub wanted : IsWanted board.plan (published_on board of_item.d) of_item.n
  pub ready : IsReady board.plan (published_on board of_item.d) of_item.node
  pub unclaimed : (standing board i).claim ≡ None

-- and published where it is wanted, ready and unpublished, with rows that are as a bag what its node gives of the published
-- inputs; a worker may help, so no claim is asked for
pub record MayPublish (board : State) (i : ℕ) (list : RowList) : Type 0 where
  pub of_item : IsItem board.plan board.docs i
  pub wanted : IsWanted board.plan (published_on board of_item.d) of_item.n
  pub ready : IsReady board.plan (published_on board of_item.d) of_item.node
  pub unpublished : (standing board i).rows ≡ None
  pub bag : SameBag list.rows (op board.plan.lists of_item.doc of_item.node
      (given board.plan (published_on board of_item.d) (left_input of_item.node))
      (given board.plan (published_on board of_item.d) (right_input of_item.node)))

-- an event is legal with these rows, which a Publish alone has; a Late one comes to an item that is published
abbrev pub IsLegal : State → Event → Option RowList → Type 0
IsLegal board (Claim worker item) None = MayClaim board item
IsLegal board (Publish worker item) (Some rows) = MayPublish board item rows
IsLegal board (Late worker item) None = IsSome (standing board item).rows
IsLegal board event rows = ⊥

-- the item of an event
abbrev pub item_of : Event → ℕ
item_of (Claim worker item) = item
item_of (Publish worker item) = item
item_of (Late worker item) = item

-- how items stand after an event: a Claim sets the claim, a Publish the rows, and a Late one changes nothing
abbrev pub items_after : List Standing → Event → Option RowList → List Standing
items_after items (Claim worker item) rows = set items item (record (slice_index_or items item untouched) { claim = Some worker })
items_after items (Publish worker item) rows = set items item (record (slice_index_or items item untouched) { rows = rows })
items_after items (Late worker item) rows = items

-- the board after an event
abbrev pub after : State → Event → Option RowList → State
after board event rows = record board { items = items_after board.items event rows }
