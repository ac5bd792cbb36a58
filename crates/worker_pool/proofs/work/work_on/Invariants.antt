use Rattle.std.proofs.Common.{◌≡◌}
use Rattle.worker_pool.specs.Pages.{AreWaiting, IsPage}
use Rattle.worker_pool.specs.Workers.{HasSeat}
use Rattle.worker_pool.proofs.work.work_on.Given as goal

abbrev pub invariant-outputs : goal.invariant-outputs
invariant-outputs g l = record {
  page : IsPage g.W.Work.plan g.W.Work.docs l.walk.d l.walk.page.items;
  path : AreWaiting g.W.Work.plan l.walk.page.items l.walk.path.items;
  seat : HasSeat l.shared.claims.now.table l.worker;
  tools : l.worker.tools ≡ g.W.Work.plan.lists;
}
