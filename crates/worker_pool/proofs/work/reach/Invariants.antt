use Rattle.std.proofs.Common.{◌≡◌}
use Rattle.worker_pool.specs.Pages.{AreWaiting, IsPage, unknown_count}
use Rattle.worker_pool.specs.Workers.{HasSeat}
use Rattle.worker_pool.proofs.work.reach.Given as goal

abbrev pub invariant-nodes : goal.invariant-nodes
invariant-nodes g l = record {
  page : IsPage g.W.Work.plan g.W.Work.docs l.walk.d l.walk.page.items;
  path : AreWaiting g.W.Work.plan l.walk.page.items l.walk.path.items;
  seat : HasSeat l.shared.claims.now.table l.worker;
  tools : l.worker.tools ≡ g.W.Work.plan.lists;
}

abbrev pub decreases-nodes : goal.decreases-nodes
decreases-nodes g l = unknown_count l.walk.page.items
