-- What a table of claims keeps between any two steps, and what each step tells the seat that takes it.
use Rattle.std.specs.Prelude.{ℕ, ◌≡◌, ◌≢◌, ◌<◌, List, [], length, slice_index}
use Rattle.std.specs.List.{sum_by}
use mathlib.Core.Option.{some}
use lib.ListN.{get_elem?}
use Rattle.atomic_table.specs.Table.{State, Me, Step}
use Rattle.run_tables.specs.declared.rule.Sizes.{Sizes}
use Rattle.run_tables.specs.declared.rule.View.{View}
use Rattle.run_tables.specs.Seats.{with_win, with_read}
use Rattle.run_tables.specs.ClaimWords.{times, is_won, AreWon, AreWonOnce}

-- a seat that stands for itself, or for more: one of n, and the seat of number 0 alone has numbers to give out, fewer
-- than the seats that it stands for
pub record IsLive (n : ℕ) (v : View) : Type 0 where
  pub seats : v.seats ≡ n
  pub number : v.number < n
  pub spare : v.spare < v.parts
  pub first_gives : v.number ≢ 0 → v.spare ≡ 0

-- what a seat knows is so: each item of its list is taken by the seat that stands with it, and a word that it read and
-- that wasn't 0 is still the item's word
pub record FitsWords (n : ℕ) (words : List ℕ) (v : View) : Type 0 where
  pub won : AreWon words v.won
  pub seen : v.word ≢ 0 → slice_index words v.item ≡ v.word
  pub live : 0 < v.parts → IsLive n v
  pub spent : v.parts ≡ 0 → v.won ≡ []

-- two seats have two numbers, and what the first seat has to give out is below all numbers but its own
pub record IsApart (v w : View) : Type 0 where
  pub numbers : v.number ≢ w.number
  pub below : v.number ≡ 0 → v.spare < w.number

abbrev pub AreApart : List View → Type 0
AreApart views =
    (i j : ℕ) (v w : View) → i ≢ j → get_elem? views i ≡ some v → get_elem? views j ≡ some w → 0 < v.parts → 0 < w.parts → IsApart v w

-- the rule: a word for each item; what seats know is so; numbers differ; the seats stand for as many as the table has;
-- and an item stands once in all lists together where its word isn't 0, else nowhere
pub record IsClaimState (sizes : Sizes) (s : State (Unit {0}) View) : Type 0 where
  pub size : length s.words ≡ sizes.items
  pub fits : (j : ℕ) (v : View) → get_elem? s.views j ≡ some v → FitsWords sizes.seats s.words v
  pub apart : AreApart s.views
  pub parts : sum_by (λ v. v.parts) s.views ≡ sizes.seats
  pub once : (item : ℕ) → sum_by (λ v. times item v.won) s.views ≡ is_won (slice_index s.words item)

-- the exchange found 0 and won the item, or found the word of the item that it read
abbrev pub tried : Step (Unit {0}) → Me (Unit {0}) View → ℕ → Me (Unit {0}) View → Type 0
tried step me found after =
    (found ≡ 0 → after.0 ≡ with_win me.0 step.word) × (found ≢ 0 → after.0 ≡ with_read me.0 step.word found) × (after.1 ≡ me.1)

-- the seat knows what it read
abbrev pub loaded : Step (Unit {0}) → Me (Unit {0}) View → ℕ → Me (Unit {0}) View → Type 0
loaded step me found after = (after.0 ≡ with_read me.0 step.word found) × (after.1 ≡ me.1)

-- the seat knows what it knew, and no item stands twice in its list
abbrev pub looked_over : Step (Unit {0}) → Me (Unit {0}) View → ℕ → Me (Unit {0}) View → Type 0
looked_over step me found after = (after.0 ≡ me.0) × AreWonOnce me.0.won × (after.1 ≡ me.1)
