use Rattle.std.proofs.Common.{◌≡◌, ◌∙◌, map, sym, ap, subst}
use Rattle.std.specs.Arc.{arc_value}
use Rattle.corpus_json.specs.Outputs.{output_line, rows_of}
use Rattle.run_pool.specs.Answers.{IsAnswer}
use Rattle.run_pool.specs.Lines.{line_from}
use Rattle.run_pool.specs.PoolLaws.{lent_wide, lent_lies, lent_line}
use Rattle.window_lines.proofs.Handing.{bytes-as}
use Rattle.window_lines.proofs.lines.append_shared.Goals as goal

pub append_line-requires-clause-columns : goal.append_line-requires-clause-columns
append_line-requires-clause-columns g c =
    let meant = g.P.Pool.means c.args.pool.now in
    let same : map (λ list. list.now) c.as_slice.result.now ≡ map arc_value c.args.rows.now = ap (map (λ list. list.now)) c.as_slice.ensures.value ∙ c.in_ok-shown.ensures in
    lent_wide meant c.args.plan.now c.args.document.now c.as_slice.result.now
    (subst (IsAnswer meant c.args.plan.now c.args.document.now) (sym same) c.requires.rows) c.args.layout.now c.requires.layout

pub append_line-requires-clause-in_document : goal.append_line-requires-clause-in_document
append_line-requires-clause-in_document g c =
    let meant = g.P.Pool.means c.args.pool.now in
    let same : map (λ list. list.now) c.as_slice.result.now ≡ map arc_value c.args.rows.now = ap (map (λ list. list.now)) c.as_slice.ensures.value ∙ c.in_ok-shown.ensures in
    lent_lies meant c.args.plan.now c.args.document.now c.as_slice.result.now (subst (IsAnswer meant c.args.plan.now c.args.document.now) (sym same) c.requires.rows)

pub returns : goal.returns
returns g c =
    let meant = g.P.Pool.means c.args.pool.now in
    let same : map (λ list. list.now) c.as_slice.result.now ≡ map arc_value c.args.rows.now = ap (map (λ list. list.now)) c.as_slice.ensures.value ∙ c.in_ok-shown.ensures in
    record {
      bytes = bytes-as c.append_line.new.pending.items c.args.pending.now.items (output_line c.args.document.now c.args.layout.now (map rows_of c.as_slice.result.now)) (line_from meant c.args.plan.now c.args.document.now) c.append_line.result
          (lent_line meant c.args.plan.now c.args.document.now c.as_slice.result.now (subst (IsAnswer meant c.args.plan.now c.args.document.now) (sym same) c.requires.rows) c.args.layout.now c.requires.layout)
          c.append_line.ensures.bytes;
    }
