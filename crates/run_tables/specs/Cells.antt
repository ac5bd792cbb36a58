-- What watches know of the cells of items.
use Rattle.std.specs.Prelude.{ℕ, ◌≡◌, ◌<◌, ◌==◌, List, Option, Some, None, cond, length, slice_index}
use Rattle.run_tables.specs.Items.{ItemRows}

-- a watch: its item's number, the name of the cell, and what the cell is known to hold
pub record Sight : Type 0 where
  pub item : ℕ
  pub cell : ℕ
  pub held : Option ItemRows

-- a watch of an item, with the item's cell
pub record Belongs (cells : List ℕ) (watch : Sight) : Type 0 where
  pub there : watch.item < length cells
  pub cell : watch.cell ≡ slice_index cells watch.item

-- what a cell holds, where it came with this item's number
abbrev pub for_item : ℕ → Option ItemRows → Option ItemRows
for_item item None = None
for_item item (Some found) = cond (found.item == item) (Some found) None

-- the result of the watch's item, where it saw one
abbrev pub known : Sight → Option ItemRows
known watch = for_item watch.item watch.held

-- the cell holds something
abbrev pub IsFilled : Sight → Type 0
IsFilled watch = (found : ItemRows) × (watch.held ≡ Some found)
