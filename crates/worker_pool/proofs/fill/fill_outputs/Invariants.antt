use Rattle.std.proofs.Common.{◌≡◌, take}
use Rattle.worker_pool.specs.Filling.{IsFilling}
use Rattle.worker_pool.specs.Pages.{AreKnown, AreWaiting}
use Rattle.worker_pool.proofs.fill.fill_outputs.Given as goal

abbrev pub invariant-each : goal.invariant-each
invariant-each g l = record {
  document : l.walk.d ≡ l.fn.walk.d;
  filling : IsFilling g.W.Work.plan g.W.Work.docs l.walk.d l.board l.walk.page.items;
  path : AreWaiting g.W.Work.plan l.walk.page.items l.walk.path.items;
  known : AreKnown l.walk.page.items (take l.i g.W.Work.plan.outputs);
  same : l.tools ≡ l.fn.tools;
}
