use Rattle.std.proofs.Common.{◌≡◌, take, map}
use Rattle.std.specs.Arc.{arc_value}
use Rattle.algebra.specs.Items.{item_at}
use Rattle.worker_pool.specs.Evaluations.{AreAnswers}
use Rattle.worker_pool.specs.Filling.{IsFilledTo}
use Rattle.worker_pool.proofs.fill.fill.Given as goal

abbrev pub invariant-each : goal.invariant-each
invariant-each g l = record {
  filled : IsFilledTo g.W.Work.plan g.W.Work.docs l.d (item_at g.W.Work.plan l.d 0) l.board;
  answers : AreAnswers g.W.Work.plan (take l.d g.W.Work.docs) (map (λ rows. map arc_value rows.items) l.docs.items);
  same : l.worker.tools ≡ l.fn.worker.tools;
}
