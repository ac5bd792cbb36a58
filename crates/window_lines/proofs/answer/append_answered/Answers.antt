use Rattle.std.proofs.Common.{◌≡◌, ◌∙◌, map, sym, ap, subst}
use Rattle.corpus_json.specs.Outputs.{output_line, rows_of}
use Rattle.run_pool.specs.Answers.{IsAnswer}
use Rattle.run_pool.specs.Lines.{line_from}
use Rattle.run_pool.specs.PoolLaws.{lent_wide, lent_lies, lent_line}
use Rattle.window_lines.proofs.Handing.{bytes-as}
use Rattle.window_lines.proofs.answer.append_answered.Goals as goal

pub append_line-requires-clause-columns : goal.append_line-requires-clause-columns
append_line-requires-clause-columns g c =
    lent_wide (g.P.Pool.means c.args.pool.now) c.args.plan.now c.args.document.now c.args.found.now (rw c.in-AsFound.is at c.in_ok-answer.ensures.rows) c.args.layout.now c.requires.layout

pub append_line-requires-clause-in_document : goal.append_line-requires-clause-in_document
append_line-requires-clause-in_document g c =
    lent_lies (g.P.Pool.means c.args.pool.now) c.args.plan.now c.args.document.now c.args.found.now (rw c.in-AsFound.is at c.in_ok-answer.ensures.rows)

pub returns-in-AsFound-clause-bytes : goal.returns-in-AsFound-clause-bytes
returns-in-AsFound-clause-bytes g c =
    bytes-as c.append_line.new.pending.items c.args.pending.now.items (output_line c.args.document.now c.args.layout.now (map rows_of c.args.found.now)) (line_from (g.P.Pool.means c.args.pool.now) c.args.plan.now c.args.document.now) c.append_line.result
    (lent_line (g.P.Pool.means c.args.pool.now) c.args.plan.now c.args.document.now c.args.found.now (rw c.in-AsFound.is at c.in_ok-answer.ensures.rows) c.args.layout.now c.requires.layout)
    c.append_line.ensures.bytes

pub append_line-requires-in-Instead-clause-columns :
    goal.append_line-requires-in-Instead-clause-columns
append_line-requires-in-Instead-clause-columns g c =
    let means = g.P.Pool.means c.args.pool.now in
    let lists : map (λ list. list.now) c.as_slice-in-Instead.result.now ≡ c.in-Instead.rows.items = ap (map (λ list. list.now)) c.as_slice-in-Instead.ensures.value ∙ c.in_ok-lent-in-Instead.ensures ∙ c.as_slice.ensures.value in
    lent_wide means c.args.plan.now c.args.document.now c.as_slice-in-Instead.result.now
    (subst (IsAnswer means c.args.plan.now c.args.document.now) (sym lists) (rw c.in-Instead.is at c.in_ok-answer.ensures.rows)) c.args.layout.now c.requires.layout

pub append_line-requires-in-Instead-clause-in_document :
    goal.append_line-requires-in-Instead-clause-in_document
append_line-requires-in-Instead-clause-in_document g c =
    let means = g.P.Pool.means c.args.pool.now in
    let lists : map (λ list. list.now) c.as_slice-in-Instead.result.now ≡ c.in-Instead.rows.items = ap (map (λ list. list.now)) c.as_slice-in-Instead.ensures.value ∙ c.in_ok-lent-in-Instead.ensures ∙ c.as_slice.ensures.value in
    lent_lies means c.args.plan.now c.args.document.now c.as_slice-in-Instead.result.now
    (subst (IsAnswer means c.args.plan.now c.args.document.now) (sym lists) (rw c.in-Instead.is at c.in_ok-answer.ensures.rows))

pub returns-in_ok-lent-in-Instead-clause-bytes : goal.returns-in_ok-lent-in-Instead-clause-bytes
returns-in_ok-lent-in-Instead-clause-bytes g c =
    let means = g.P.Pool.means c.args.pool.now in
    let lists : map (λ list. list.now) c.as_slice-in-Instead.result.now ≡ c.in-Instead.rows.items = ap (map (λ list. list.now)) c.as_slice-in-Instead.ensures.value ∙ c.in_ok-lent-in-Instead.ensures ∙ c.as_slice.ensures.value in
    bytes-as c.append_line-in-Instead.new.pending.items c.args.pending.now.items (output_line c.args.document.now c.args.layout.now (map rows_of c.as_slice-in-Instead.result.now)) (line_from means c.args.plan.now c.args.document.now) c.append_line-in-Instead.result
    (lent_line means c.args.plan.now c.args.document.now c.as_slice-in-Instead.result.now (subst (IsAnswer means c.args.plan.now c.args.document.now) (sym lists) (rw c.in-Instead.is at c.in_ok-answer.ensures.rows)) c.args.layout.now c.requires.layout)
    c.append_line-in-Instead.ensures.bytes
