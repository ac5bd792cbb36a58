use Rattle.std.proofs.Common.{◌≡◌, ◌<◌, ◌++◌, ◌∷◌, [], ◌∙◌, List, arith, ap, length, map, subst, sym, take}
use Rattle.std.proofs.lemmas.List.{map-append}
use Rattle.std.proofs.lemmas.Result.{err_from_is_err_and}
use Rattle.std.specs.Arc.{arc_value}
use Rattle.span_token.specs.Documents.{Doc}
use Rattle.row_values.specs.Rows.{RowList}
use Rattle.run_pool.specs.Answers.{AreAllAnswers, IsAnswer}
use Rattle.run_pool.specs.Entries.{entry_of, with_entries, AreHandedInPart}
use Rattle.run_pool.specs.Lines.{Meaning, rows_by}
use Rattle.window_lines.proofs.Handing.{taken-more, handed-more, handed-part}
use Rattle.window_lines.proofs.Sharing as law
use Rattle.window_lines.proofs.answers.answers_of.Goals as goal

pub bounds-found-d : goal.bounds-found-d
bounds-found-d g c =
    let below : c.loop-d.d < length c.args.docs.now = omega arith in
    law.zip-mapped-below (IsAnswer rows_by c.args.plan.now) c.args.docs.now c.args.found.now (λ rows. map arc_value rows.items) c.loop-d.d c.requires.found below

pub push_answer-requires-clause-found : goal.push_answer-requires-clause-found
push_answer-requires-clause-found g c =
    let below : c.loop-d.d < length c.args.docs.now = omega arith in
    λ κs within. rw c.as_slice.ensures.value
    (law.zip-mapped (IsAnswer rows_by c.args.plan.now) c.args.docs.now c.args.found.now (λ rows. map arc_value rows.items) c.loop-d.d c.index-docs-d.result c.index-found-d.result c.requires.found below c.index-docs-d.is c.index-found-d.is)

pub loop-d-preserved : goal.loop-d-preserved
loop-d-preserved g c =
    let below : c.loop-d.d < length c.args.docs.now = omega arith in
    let meant : Meaning = g.P.Pool.means c.args.pool.now in
    let pushed = c.in_ok-push_answer.ensures.pushed in
    let more = taken-more c.args.docs.now c.loop-d.d c.index-docs-d.result below c.index-docs-d.is in
    record {
      alike = c.push_answer.ensures.means ∙ c.loop-d.invariant.alike;
      answers = subst (λ (docs : List Doc). AreAllAnswers meant c.args.plan.now docs (map (λ rows. map arc_value rows.items) c.push_answer.new.answers.items)) (sym more)
          (subst (λ (lists : List (List RowList)). AreAllAnswers meant c.args.plan.now (take c.loop-d.d c.args.docs.now ++ c.index-docs-d.result ∷ []) lists)
          (sym (ap (map (λ rows. map arc_value rows.items)) pushed.1 ∙ map-append (λ rows. map arc_value rows.items) c.loop-d.answers.items (pushed.0 ∷ [])))
          (law.zip-push (IsAnswer meant c.args.plan.now) (take c.loop-d.d c.args.docs.now) (map (λ rows. map arc_value rows.items) c.loop-d.answers.items) c.index-docs-d.result (map arc_value pushed.0.items)
          c.loop-d.invariant.answers (subst (λ (m : Meaning). IsAnswer m c.args.plan.now c.index-docs-d.result (map arc_value pushed.0.items)) c.loop-d.invariant.alike pushed.2)));
      handed = handed-more (entry_of meant c.args.plan.now) (g.P.Pool.told c.args.pool.now) c.args.docs.now c.loop-d.d c.index-docs-d.result (g.P.Pool.told c.loop-d.pool) (g.P.Pool.told c.push_answer.new.pool)
          below c.index-docs-d.is c.loop-d.invariant.handed
          (subst (λ (m : Meaning). g.P.Pool.told c.push_answer.new.pool ≡ with_entries (g.P.Pool.told c.loop-d.pool) (entry_of m c.args.plan.now c.index-docs-d.result ∷ [])) c.loop-d.invariant.alike c.in_ok-push_answer.ensures.handed);
    }

pub returns-in_err-push_answer-clause-handed : goal.returns-in_err-push_answer-clause-handed
returns-in_err-push_answer-clause-handed g c =
    let below : c.loop-d.d < length c.args.docs.now = omega arith in
    let meant : Meaning = g.P.Pool.means c.args.pool.now in
    let p = err_from_is_err_and c.from_residual.result c.from_residual.ensures.1 in
    rw p.1
    (handed-part (entry_of meant c.args.plan.now) (g.P.Pool.told c.args.pool.now) c.args.docs.now c.loop-d.d c.index-docs-d.result (g.P.Pool.told c.loop-d.pool) (g.P.Pool.told c.push_answer.new.pool)
    below c.index-docs-d.is c.loop-d.invariant.handed
    (subst (λ (m : Meaning). AreHandedInPart (g.P.Pool.told c.loop-d.pool) (g.P.Pool.told c.push_answer.new.pool) (entry_of m c.args.plan.now c.index-docs-d.result ∷ [])) c.loop-d.invariant.alike c.in_err-push_answer.ensures.handed))
