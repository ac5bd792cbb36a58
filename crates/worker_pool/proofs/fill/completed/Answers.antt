use Rattle.worker_pool.proofs.Answering.{evaluated-by}
use Rattle.worker_pool.proofs.fill.completed.Goals as goal

pub returns : goal.returns
returns g c = record {
  done = evaluated-by g.W.Work.plan g.W.Work.docs _ c.promise.ensures.reached c.promise.ensures.sound c.requires.filled c.requires.answers;
}
