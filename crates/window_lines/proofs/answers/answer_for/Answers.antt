use Rattle.std.proofs.Common.{◌∙◌, ap, map, subst}
use Rattle.std.specs.Arc.{arc_value}
use Rattle.run_pool.specs.Answers.{IsAnswer}
use Rattle.window_lines.proofs.Handing.{ok-as}
use Rattle.window_lines.proofs.answers.answer_for.Goals as goal

pub returns-in-AsFound-clause-rows : goal.returns-in-AsFound-clause-rows
returns-in-AsFound-clause-rows g c =
    let means = g.P.Pool.means c.args.pool.now in
    ok-as (IsAnswer means c.args.plan.now c.args.document.now) (λ rows. map arc_value rows.items) (map arc_value c.args.found.now) c.kept.result
    (subst (IsAnswer means c.args.plan.now c.args.document.now) (ap (map (λ list. list.now)) c.as_slice.ensures.value ∙ c.in_ok-lent.ensures) (rw c.in-AsFound.is at c.in_ok-answer.ensures.rows))
    c.kept.ensures

pub returns-clause-rows : goal.returns-clause-rows
returns-clause-rows g c =
    ok-as (IsAnswer (g.P.Pool.means c.args.pool.now) c.args.plan.now c.args.document.now) (λ rows. map arc_value rows.items) c.in-Instead.rows.items c.shared.result
    (rw c.in-Instead.is at c.in_ok-answer.ensures.rows) c.shared.ensures
