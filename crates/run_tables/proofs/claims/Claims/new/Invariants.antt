use Rattle.std.proofs.Common.{ℕ, ◌≡◌, ◌<◌, ◌+◌, ◌-◌, [], length, get_or}
use Rattle.run_tables.specs.Seats.{Seated, dealer, newcomer}
use Rattle.run_tables.proofs.claims.Claims.new.Given as goal

-- the first seat may give out the numbers that are left, and the others come from the greatest number down
abbrev pub invariant-loop-i : goal.invariant-loop-i
invariant-loop-i l =
    (l.first.table_id ≡ l.claims-inside.table.shared.table_id) × (l.first.me ≡ (dealer l.seats (l.seats - l.i), [])) × (length l.all.items + 1 ≡ l.i)
    × ((k : ℕ) (d : Seated) → k < length l.all.items → get_or l.all.items k d ≡ record { table = l.claims-inside.table.shared.table_id; view = newcomer l.seats (l.seats - 1 - k) })
