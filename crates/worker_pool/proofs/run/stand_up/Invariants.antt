use Rattle.std.proofs.Common.{◌≡◌, ◌≤◌, ◌<◌, ℕ, length}
use Rattle.std.specs.Prelude.{slice_index_or}
use Rattle.worker_pool.specs.declared.crew.Worker.{Worker}
use Rattle.worker_pool.specs.Workers.{HasSeat, HaveTools}
use Rattle.worker_pool.proofs.run.stand_up.Given as goal

abbrev pub invariant-each : goal.invariant-each
invariant-each g l = record {
  table : l.all.table ≡ l.claims.table;
  parts : l.all.view.parts ≡ l.i;
  tools : HaveTools g.W.Work.plan.lists l.workers;
  seats : (k : ℕ) (d : Worker) → l.i ≤ k → k < length l.workers → HasSeat l.claims.table (slice_index_or l.workers k d);
}
