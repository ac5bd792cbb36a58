-- Seats of a table of claims as contracts see them, and what each call makes of what a seat knows.
use Rattle.std.specs.Prelude.{ℕ, ◌≡◌, ◌+◌, ◌-◌, ◌<◌, List, [], ◌∷◌, ◌++◌, length, slice_index_or}
use Rattle.atomic_table.specs.Seated.{TableId}
use Rattle.run_tables.specs.declared.rule.Sizes.{Sizes}
use Rattle.run_tables.specs.declared.rule.View.{View}

-- a table of claims: which it is, and how many items and seats it has
pub record ClaimTable : Type 0 where
  pub table : TableId
  pub sizes : Sizes

-- a seat: which table it fits, and what it knows
pub record Seated : Type 0 where
  pub table : TableId
  pub view : View

-- a seat of that number, one of n, with nothing won or read
abbrev pub newcomer : ℕ → ℕ → View
newcomer n number = record { seats = n; number = number; spare = 0; parts = 1; won = []; item = 0; word = 0 }

-- the first seat, while it may give out the numbers from 1 to spare
abbrev pub dealer : ℕ → ℕ → View
dealer n spare = record { seats = n; number = 0; spare = spare; parts = spare + 1; won = []; item = 0; word = 0 }

-- the view of the first seat
abbrev pub opener : Sizes → View
opener sizes = dealer sizes.seats (sizes.seats - 1)

-- the seat gave out a number
abbrev pub giver : View → View
giver view = record { seats = view.seats; number = view.number; spare = view.spare - 1; parts = view.parts - 1; won = view.won; item = view.item; word = view.word }

-- the seat won an item
abbrev pub with_win : View → ℕ → View
with_win view item =
    record { seats = view.seats; number = view.number; spare = view.spare; parts = view.parts; won = view.won ++ record { item = item; seat = view.number } ∷ []; item = view.item; word = view.word }

-- the seat read the word of an item
abbrev pub with_read : View → ℕ → ℕ → View
with_read view item word = record { seats = view.seats; number = view.number; spare = view.spare; parts = view.parts; won = view.won; item = item; word = word }

-- the seat stands for another one too, and has its list behind its own
abbrev pub with_joined : View → View → View
with_joined view other =
    record { seats = view.seats; number = view.number; spare = view.spare; parts = view.parts + other.parts; won = view.won ++ other.won; item = view.item; word = view.word }

-- the view of a seat that was joined into another one
abbrev pub gone : View
gone = record { seats = 0; number = 0; spare = 0; parts = 0; won = []; item = 0; word = 0 }

-- the same seat, which stands for as many
pub record IsSameSeat (old new : Seated) : Type 0 where
  pub table : new.table ≡ old.table
  pub number : new.view.number ≡ old.view.number
  pub parts : new.view.parts ≡ old.view.parts

-- the seat fits the table, and stands for itself alone
abbrev pub SitsAt : TableId → Seated → Type 0
SitsAt table seat = (seat.table ≡ table) × (seat.view.parts ≡ 1)

-- the n seats of a table, in the order of their numbers from 0
pub record AreNewSeats (table : TableId) (n : ℕ) (seats : List Seated) : Type 0 where
  pub all : length seats ≡ n
  pub each : (i : ℕ) (d : Seated) → i < n → slice_index_or seats i d ≡ record { table = table; view = newcomer n i }
