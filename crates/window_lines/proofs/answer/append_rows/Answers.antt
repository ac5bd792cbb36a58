use Rattle.std.proofs.Common.{◌∙◌, ap, map, refl, subst, sym}
use Rattle.std.proofs.lemmas.Result.{err_from_is_err_and}
use Rattle.run_pool.specs.Answers.{IsAnswer}
use Rattle.run_pool.specs.Lines.{rows_by}
use Rattle.run_pool.specs.PoolLaws.{part_none}
use Rattle.window_lines.specs.ShownLaws.{list_of, shown_answer}
use Rattle.window_lines.proofs.answer.append_rows.Goals as goal

pub append_answered-requires-2-clause-found : goal.append_answered-requires-2-clause-found
append_answered-requires-2-clause-found g c = λ κs within.
    subst (IsAnswer rows_by c.args.plan.now c.args.document.now)
    (sym (ap (map (λ list. list.now)) c.as_slice.ensures.value ∙ c.in_ok-shown.ensures ∙ ap (map (list_of c.args.board.now)) c.outputs-outputs.ensures.outputs))
    (shown_answer c.args.plan.now c.args.document.now c.args.board.now c.requires.shown c.outputs-outputs.ensures.valid.each)

pub returns-in_err-shown-clause-handed : goal.returns-in_err-shown-clause-handed
returns-in_err-shown-clause-handed g c =
    let p = err_from_is_err_and c.from_residual.result c.from_residual.ensures.1 in
    rw p.1 (part_none (g.P.Pool.told c.args.pool.now) (g.P.Pool.told c.args.pool.now) _ refl)
