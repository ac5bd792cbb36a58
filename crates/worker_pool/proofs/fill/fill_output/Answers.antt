use Rattle.std.proofs.Common.{ℕ, IsSome, subst}
use Rattle.worker_pool.specs.Pages.{known_at}
use Rattle.worker_pool.proofs.Answering.{known-more}
use Rattle.worker_pool.proofs.fill.fill_output.Goals as goal

pub returns-clause-known : goal.returns-clause-known
returns-clause-known g c =
    let old = c.args.walk.now.page.items in
    let new = c.fill_node.new.walk.page.items in
    known-more old new g.W.Work.plan.outputs c.args.i c.requires.there c.requires.known c.in_ok-fill_node.ensures.more
    (λ out. subst (λ (n : ℕ). IsSome (known_at new n)) (c.output-out.ensures.is out) c.in_ok-fill_node.ensures.known)
