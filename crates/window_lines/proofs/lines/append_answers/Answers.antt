use Rattle.std.proofs.Common.{◌<◌, length, map, arith}
use Rattle.std.specs.Arc.{arc_value}
use Rattle.run_pool.specs.Answers.{IsAnswer}
use Rattle.window_lines.proofs.Sharing as law
use Rattle.window_lines.proofs.lines.append_answers.Goals as goal

pub bounds-answers-d : goal.bounds-answers-d
bounds-answers-d g c =
    let below : c.loop-d.d < length c.args.docs.now = omega arith in
    law.zip-mapped-below (IsAnswer (g.P.Pool.means c.args.pool.now) c.args.plan.now) c.args.docs.now c.args.answers.now (λ rows. map arc_value rows.items) c.loop-d.d c.requires.answers below

pub append_shared-requires-clause-rows : goal.append_shared-requires-clause-rows
append_shared-requires-clause-rows g c =
    let below : c.loop-d.d < length c.args.docs.now = omega arith in
    λ κs within. rw c.as_slice.ensures.value
    (law.zip-mapped (IsAnswer (g.P.Pool.means c.args.pool.now) c.args.plan.now) c.args.docs.now c.args.answers.now (λ rows. map arc_value rows.items) c.loop-d.d c.index-docs-d.result c.index-answers-d.result c.requires.answers below c.index-docs-d.is c.index-answers-d.is)
