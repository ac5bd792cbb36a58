use Rattle.worker_pool.proofs.Boarding.{filling-start}
use Rattle.worker_pool.proofs.fill.begin_document.Goals as goal

pub returns-clause-filling : goal.returns-clause-filling
returns-clause-filling g c =
    filling-start g.W.Work.plan g.W.Work.docs c.args.d c.args.board.now _ _ c.begin.ensures.document c.requires.filled c.in_ok-begin.ensures.page c.in_ok-begin.ensures.blank
