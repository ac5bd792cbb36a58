use Rattle.std.proofs.Common.{◌≡◌, ◌+◌, All, length, vec_len}
use Rattle.run_tables.specs.Seats.{SitsAt}
use Rattle.run_tables_tests.proofs.claims.all_joined.Given as goal

abbrev pub invariant-loop-seat : goal.invariant-loop-seat
invariant-loop-seat l =
    (l.all.table ≡ l.claims.table) × (l.all.view.parts + length l.seats.items ≡ length l.fn.seats.items) × All (SitsAt l.claims.table) l.seats.items

abbrev pub decreases-loop-seat : goal.decreases-loop-seat
decreases-loop-seat l = vec_len l.seats
