use Rattle.std.proofs.Common.{◌≡◌}
use Rattle.worker_pool.specs.Filling.{IsFilling}
use Rattle.worker_pool.specs.Pages.{unknown_count, AreWaiting, IsPage, KnowsMore}
use Rattle.worker_pool.proofs.fill.fill_node.Given as goal

abbrev pub invariant-nodes : goal.invariant-nodes
invariant-nodes g l = record {
  document : l.walk.d ≡ l.fn.walk.d;
  filling : IsFilling g.W.Work.plan g.W.Work.docs l.walk.d l.board l.walk.page.items;
  page : IsPage g.W.Work.plan g.W.Work.docs l.walk.d l.walk.page.items;
  path : AreWaiting g.W.Work.plan l.walk.page.items l.walk.path.items;
  more : KnowsMore l.fn.walk.page.items l.walk.page.items;
  same : l.tools ≡ l.fn.tools;
}

abbrev pub decreases-nodes : goal.decreases-nodes
decreases-nodes g l = unknown_count l.walk.page.items
