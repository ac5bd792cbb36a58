use Rattle.std.specs.Arc.{arc_value}
use Rattle.worker_pool.proofs.Answering.{known-at, shown-pushed}
use Rattle.std.proofs.Common.{◌<◌, length, arith}
use Rattle.worker_pool.proofs.fill.rows_shown.Goals as goal

pub rows_of-requires-clause-known : goal.rows_of-requires-clause-known
rows_of-requires-clause-known g c =
    let below : c.each.i < length g.W.Work.plan.outputs = omega arith in
    known-at c.args.page.now.items g.W.Work.plan.outputs c.each.i c.output.result below c.requires.known c.output.ensures.is

pub each-preserved : goal.each-preserved
each-preserved g c =
    let below : c.each.i < length g.W.Work.plan.outputs = omega arith in
    shown-pushed c.args.page.now.items g.W.Work.plan.outputs c.each.i c.output.result c.each.shown.items c.push.new.self.items c.in_ok-rows_of.field-0 arc_value below c.output.ensures.is c.in_ok-push.ensures.items
    c.in_ok-rows_of.ensures.rows c.each.invariant
