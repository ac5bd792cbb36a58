-- The weight as it is counted: numbers up to a limit, and chains passed over as a whole.
use Rattle.std.specs.Prelude.{ℕ, zero, suc, ◌≤◌, min, max, false, List, length, slice_index_or, Option, option_map}
use Rattle.std.specs.Option.{option_map_or}
use Rattle.aql_regex_extract.specs.Weight.{Count, count_at, chains_in, greatest_at, most_weight}

-- a number that isn't counted above the limit
abbrev pub capped : ℕ → ℕ
capped n = min n most_weight

-- a count so, and what follows it
abbrev pub capped_count : Option Count → Option (ℕ × List ℕ)
capped_count = option_map (λ c. (capped c.number, c.rest))

-- what follows the first `n` counts that follow one another from the front on
unfoldable pub past_chain : ℕ → List ℕ → List ℕ
past_chain zero text = text
past_chain (suc n) text = option_map_or (λ c. past_chain n c.rest) (count_at text) text

-- what follows the chain at the front
abbrev pub after_chain : List ℕ → List ℕ
after_chain text = past_chain (length text) text

-- the greatest chain at a depth: among those counted so far, and those that the rest of the text has
abbrev pub greatest_known : List ℕ → ℕ → List ℕ → ℕ → ℕ
greatest_known greatest depth rest d = max (slice_index_or greatest d 1) (capped (greatest_at (chains_in false depth rest) d))

-- a number that was counted
abbrev pub IsCounted : ℕ → Type 0
IsCounted n = (1 ≤ n) × (n ≤ most_weight)
