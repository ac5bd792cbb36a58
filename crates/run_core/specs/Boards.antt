-- Boards: what is claimed and what is published, for each node of a plan on each document.
use Rattle.std.specs.Prelude.{ℕ, ◌≡◌, List, Option, None, length, replicate, slice_index_or}
use Rattle.span_token.specs.Documents.{Doc}
use Rattle.row_values.specs.Rows.{RowList}
use Rattle.algebra.specs.Items.{item_count, item_at}
use Rattle.algebra.specs.Plans.{Parts}

-- how an item stands: the worker that claimed it, and its published rows
pub record Standing : Type 0 where
  pub claim : Option ℕ
  pub rows : Option RowList

-- nobody claimed it, and nothing is published
abbrev pub untouched : Standing
untouched = record { claim = None; rows = None }

-- a board: its plan, its documents, and how each item stands
pub record State : Type 0 where
  pub plan : Parts
  pub docs : List Doc
  pub items : List Standing

-- it says of each item how it stands
abbrev pub IsSized : State → Type 0
IsSized board = length board.items ≡ item_count board.plan board.docs

-- the board on which nothing is claimed and nothing is published
abbrev pub fresh : Parts → List Doc → State
fresh plan docs = record { plan = plan; docs = docs; items = replicate (item_count plan docs) untouched }

-- how item i stands
abbrev pub standing : State → ℕ → Standing
standing board i = slice_index_or board.items i untouched

-- what is published of node n on document d
abbrev pub published_on : State → ℕ → ℕ → Option RowList
published_on board d n = (standing board (item_at board.plan d n)).rows
