use Rattle.std.proofs.Common.{arith}
use Rattle.view_graph.proofs.Walking.{walked}
use Rattle.view_graph.proofs.search.rank_all.Goals as goal

pub returns : goal.returns
returns c =
    walked c.args.uses.now c.loop-view.marks.items c.loop-view.invariant.0
    (λ view below. c.loop-view.invariant.1 view (omega (arith, below, c.loop-view-test.false)))
