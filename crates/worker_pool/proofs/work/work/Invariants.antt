use Rattle.std.proofs.Common.{◌≡◌, ◌<◌}
use Rattle.worker_pool.specs.Workers.{HasSeat}
use Rattle.worker_pool.proofs.work.work.Given as goal

abbrev pub invariant-docs : goal.invariant-docs
invariant-docs g l = record {
  there : l.d < l.docs;
  seat : HasSeat l.shared.claims.now.table l.worker;
  tools : l.worker.tools ≡ g.W.Work.plan.lists;
}
