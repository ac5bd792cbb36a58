use Rattle.std.proofs.Common.{map, subst}
use Rattle.std.specs.Arc.{arc_value}
use Rattle.std.proofs.lemmas.Result.{IfOk-weaker}
use Rattle.algebra.specs.Nodes.{IsPlan}
use Rattle.algebra.specs.Plans.{Parts, AreOutputs}
use Rattle.worker_pool.proofs.Answering.{known-answer}
use Rattle.worker_pool.proofs.Boarding.{filling-done}
use Rattle.worker_pool.proofs.fill.end_document.Goals as goal

pub returns-clause-filled : goal.returns-clause-filled
returns-clause-filled g c =
    let walk = c.args.walk.now in
    let planned = subst (λ (p : Parts). IsPlan p.nodes) c.args.window.now.plan_is c.told_of.ensures.planned in
    filling-done g.W.Work.plan g.W.Work.docs walk.d c.args.board.now walk.page.items c.requires.filling c.args.d c.requires.document planned c.requires.known

pub returns-clause-rows : goal.returns-clause-rows
returns-clause-rows g c =
    let walk = c.args.walk.now in
    let valid = subst (λ (p : Parts). AreOutputs p.nodes p.outputs) c.args.window.now.plan_is c.told_of.ensures.outputs in
    IfOk-weaker c.rows_shown.result _ _
    (λ rows are. known-answer g.W.Work.plan g.W.Work.docs walk.d walk.page.items c.requires.filling.page c.args.d (map arc_value rows.items) c.requires.document valid are)
    c.rows_shown.ensures.rows
