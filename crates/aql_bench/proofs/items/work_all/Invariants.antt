use Rattle.run_tables.specs.Seats.{SitsAt}
use Rattle.aql_bench.proofs.items.work_all.Given as goal

abbrev pub invariant-loop-d : goal.invariant-loop-d
invariant-loop-d g l = SitsAt l.claims.table l.seat
