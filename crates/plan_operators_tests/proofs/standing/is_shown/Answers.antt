use Rattle.std.proofs.Common.{arith, rules}
use Rattle.algebra.specs.Shapes.{IsOpen}
use Rattle.plan_operators_tests.proofs.Planning.{may_show}
use Rattle.plan_operators_tests.proofs.standing.is_shown.Goals as goal

pub returns : goal.returns
returns c = λ shown.
    let opened : IsOpen c.shape-shape.result = search rules in
    may_show c.args.nodes.now c.args.out.now c.shape-shape.result (grind (arith, c.if-out-len.false, c.len.ensures)) c.shape-shape.ensures opened
    (grind (arith, c.width.ensures.width, c.if-width-shape.false))
