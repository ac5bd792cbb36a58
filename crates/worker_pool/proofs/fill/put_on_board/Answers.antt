use Rattle.std.proofs.Common.{sym, subst, ap, ◌∙◌, Some}
use Rattle.std.specs.Arc.{arc_value}
use Rattle.run_core.specs.declared.event.Event.TheVariants.{Publish}
use Rattle.run_core.specs.Boards.{State}
use Rattle.run_core.specs.BoardLaws.{publish-claimed}
use Rattle.run_core.specs.Events.{MayPublish, after}
use Rattle.run_core.specs.StepLaws.{claimed-below}
use Rattle.worker_pool.specs.Filling.{HasPut}
use Rattle.worker_pool.proofs.Boarding.{has-put}
use Rattle.worker_pool.proofs.fill.put_on_board.Goals as goal

pub step-requires-2 : goal.step-requires-2
step-requires-2 c =
    let board = c.args.board.now in
    let list = arc_value c.args.rows in
    record {
      legal = subst (λ (b : State). MayPublish b c.args.item list) (sym c.step.ensures.after)
          (publish-claimed board c.promise.ensures.sound c.args.worker c.args.item c.requires.may_claim c.requires.unpublished list c.requires.value);
    }

pub returns : goal.returns
returns c =
    let board = c.args.board.now in
    let list = arc_value c.args.rows in
    let below = claimed-below board c.args.item c.promise.ensures.sound.holds.sized c.requires.may_claim in
    let both = c.step-2.ensures.after ∙ ap (λ (b : State). after b (Publish c.args.worker c.args.item) (Some list)) c.step.ensures.after in
    record { put = subst (λ (b : State). HasPut board b c.args.item list) (sym both) (has-put board c.args.worker c.args.item list below) }
