use Rattle.std.proofs.Common.{sym, subst, All}
use Rattle.std.proofs.lemmas.List.Elements.{All-nil, All-push}
use Rattle.row_values.specs.Datums.{IsOfDocument}
use Rattle.aql_bench.proofs.filtering.token_rows.Goals as goal

pub loop-i-init : goal.loop-i-init
loop-i-init c = subst (All (All (IsOfDocument c.args.doc.now))) (sym c.new-rows.ensures.items) (All-nil (All (IsOfDocument c.args.doc.now)))

pub loop-i-preserved : goal.loop-i-preserved
loop-i-preserved c = subst (All (All (IsOfDocument c.args.doc.now))) (sym c.in_ok-push.ensures.items)
    (All-push (All (IsOfDocument c.args.doc.now)) c.loop-i.rows.items c.in_ok-token_row.field-0 c.loop-i.invariant c.in_ok-token_row.ensures)
