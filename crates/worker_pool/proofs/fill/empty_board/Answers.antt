use Rattle.std.proofs.lemmas.Result.{IfOk-weaker}
use Rattle.worker_pool.proofs.Boarding.{filled-fresh}
use Rattle.worker_pool.proofs.fill.empty_board.Goals as goal

pub returns : goal.returns
returns g c = record {
  filled = IfOk-weaker c.new.result _ _
      (λ board is. filled-fresh g.W.Work.plan _ g.W.Work.docs _ board c.args.window.now.plan_is c.args.window.now.docs_are is)
      c.new.ensures.fresh;
}
