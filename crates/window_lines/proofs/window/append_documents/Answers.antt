use Rattle.std.proofs.Common.{◌∙◌, List, ap, map, subst, sym}
use Rattle.std.specs.Arc.{arc_value}
use Rattle.row_values.specs.Rows.{RowList}
use Rattle.worker_pool.specs.Evaluations.{AreAnswers}
use Rattle.window_lines.proofs.Sharing.{found_answers}
use Rattle.window_lines.proofs.window.append_documents.Goals as goal

pub answers_of-requires-clause-found : goal.answers_of-requires-clause-found
answers_of-requires-clause-found g c κs within =
    found_answers c.args.plan.now c.args.docs.now (map (λ rows. map arc_value rows.items) c.as_slice.result.now)
    (subst (λ (answers : List (List RowList)). AreAnswers c.args.plan.now c.args.docs.now answers)
    (sym (ap (map (λ rows. map arc_value rows.items)) c.as_slice.ensures.value ∙ c.into_rows-found.ensures.rows)) c.in_ok-evaluate.ensures.done.answers)
    c.outputs-outputs.ensures.valid.each
