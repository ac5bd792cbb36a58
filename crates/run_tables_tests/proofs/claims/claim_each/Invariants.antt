use Rattle.run_tables.specs.Seats.{SitsAt}
use Rattle.run_tables_tests.proofs.claims.claim_each.Given as goal

abbrev pub invariant-loop-item : goal.invariant-loop-item
invariant-loop-item l = SitsAt l.claims.table l.seat
