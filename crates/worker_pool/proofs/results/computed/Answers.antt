use Rattle.std.proofs.Common.{◌∙◌, subst, ap}
use Rattle.algebra.specs.Nodes.{IsPlan}
use Rattle.algebra.specs.Plans.{Parts}
use Rattle.worker_pool.specs.Pages.{known_of}
use Rattle.worker_pool.proofs.Paging.{document_at, node-at, may-compute-of}
use Rattle.worker_pool.proofs.results.computed.Goals as goal

pub compute-requires-clause-inputs : goal.compute-requires-clause-inputs
compute-requires-clause-inputs g c =
    let plan = g.W.Work.plan in
    let docs = g.W.Work.docs in
    let known = c.args.page.now.items in
    let node = c.get.result.now in
    let plan_is = c.args.window.now.plan_is in
    let doc = document_at docs c.args.d c.requires.page.there in
    let planned = subst (λ (p : Parts). IsPlan p.nodes) plan_is c.told_of.ensures.planned in
    let at = node-at plan.nodes c.nodes.result.now c.args.n node (c.nodes.ensures ∙ ap (λ (p : Parts). p.nodes) plan_is) c.requires.next.there c.get.ensures.node in
    may-compute-of plan docs c.args.d doc.0 doc.1 known c.requires.page planned c.args.n c.requires.next node at _ _ _ c.item-item.ensures.is
    (c.result_of-left_result.ensures ∙ ap (known_of known) c.inputs-left.ensures.left) (c.result_of-right_result.ensures ∙ ap (known_of known) c.inputs-left.ensures.right)
