use Rattle.std.proofs.Common.{◌*◌, map, sym, subst}
use Rattle.std.specs.Arc.{arc_value}
use Rattle.std.specs.Fork.{slice_chunk}
use Rattle.std.specs.List.{AllZip}
use Rattle.run_pool.specs.Answers.{IsAnswer}
use Rattle.window_lines.proofs.Sharing.{zip-mapped-below}
use Rattle.window_lines.proofs.Stretches.{zip-stretch, map-stretch}
use Rattle.window_lines.proofs.lines.Writing.part.Goals as goal

pub stretch-requires-2-clause-begun : goal.stretch-requires-2-clause-begun
stretch-requires-2-clause-begun g c =
    zip-mapped-below (IsAnswer (g.P.Pool.means c.args.self.now.pool.now) c.args.self.now.plan.now) c.args.self.now.docs.now c.args.self.now.answers.now (λ rows. map arc_value rows.items)
    (c.args.n * c.args.self.now.size) c.requires.shown c.requires.begun

pub append_answers-requires-clause-answers : goal.append_answers-requires-clause-answers
append_answers-requires-clause-answers g c = λ κs within.
    subst (λ docs. AllZip (IsAnswer (g.P.Pool.means c.args.self.now.pool.now) c.args.self.now.plan.now) docs (map (λ rows. map arc_value rows.items) c.stretch-2.result.now)) (sym c.stretch.ensures)
    (subst (λ answers. AllZip (IsAnswer (g.P.Pool.means c.args.self.now.pool.now) c.args.self.now.plan.now) (slice_chunk c.args.self.now.docs.now c.args.self.now.size c.args.n) (map (λ rows. map arc_value rows.items) answers)) (sym c.stretch-2.ensures)
    (subst (λ lists. AllZip (IsAnswer (g.P.Pool.means c.args.self.now.pool.now) c.args.self.now.plan.now) (slice_chunk c.args.self.now.docs.now c.args.self.now.size c.args.n) lists)
    (map-stretch (λ rows. map arc_value rows.items) c.args.self.now.size c.args.n c.args.self.now.answers.now)
    (zip-stretch (IsAnswer (g.P.Pool.means c.args.self.now.pool.now) c.args.self.now.plan.now) c.args.self.now.size c.args.n c.args.self.now.docs.now (map (λ rows. map arc_value rows.items) c.args.self.now.answers.now) c.requires.shown)))
