-- Words of a table of claims, one for each item, and lists of won items.
use Rattle.std.specs.Prelude.{ℕ, zero, suc, ◌≡◌, ◌≤◌, ◌==◌, List, All, count_by, slice_index}
use Rattle.run_tables.specs.declared.rule.Win.{Win}

-- how often an item stands in a list
abbrev pub times : ℕ → List Win → ℕ
times item won = count_by (λ win. win.item == item) won

-- no item stands twice in the list
abbrev pub AreWonOnce : List Win → Type 0
AreWonOnce won = (item : ℕ) → times item won ≤ 1

-- each item's word is one more than the number of the seat that stands with it
abbrev pub AreWon : List ℕ → List Win → Type 0
AreWon words won = All (λ win. slice_index words win.item ≡ suc win.seat) won

-- 0 for the word of an item that nobody won, else 1
abbrev pub is_won : ℕ → ℕ
is_won zero = 0
is_won (suc word) = 1

-- the list has exactly the items whose word isn't 0, each once, with its winner's number
pub record AreWords (words : List ℕ) (won : List Win) : Type 0 where
  pub winners : AreWon words won
  pub once : (item : ℕ) → times item won ≡ is_won (slice_index words item)
