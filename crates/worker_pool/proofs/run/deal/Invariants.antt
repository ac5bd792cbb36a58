use Rattle.std.proofs.Common.{◌≡◌, ◌+◌, length, take, vec_len}
use Rattle.std.specs.Prelude.{All}
use Rattle.run_tables.specs.Seats.{SitsAt}
use Rattle.worker_pool.specs.Workers.{HaveSeats, HaveTools}
use Rattle.worker_pool.proofs.run.deal.Given as goal

abbrev pub invariant-each : goal.invariant-each
invariant-each g l = record {
  enough : vec_len l.seats + l.i ≡ length l.workers;
  sit : All (SitsAt l.claims.table) l.seats.items;
  tools : HaveTools g.W.Work.plan.lists l.workers;
  seats : HaveSeats l.claims.table (take l.i l.workers);
}
