use Rattle.std.proofs.Common.{◌∙◌, ◌+◌, List, ap, sym, subst}
use Rattle.std.proofs.lemmas.List.{take_all}
use Rattle.row_values.specs.Datums.{Datum}
use Rattle.row_values.specs.Rows.{RowList, RowsLieIn, product}
use Rattle.row_values.specs.RowBags.{RowsLieIn-product}
use Rattle.plan_operators.proofs.Going.{crossed-next}
use Rattle.plan_operators.proofs.cross.cross.Goals as goal

pub loop-row-preserved : goal.loop-row-preserved
loop-row-preserved c =
    crossed-next c.as_slice-row-items.result.now c.args.right.now.rows c.loop-row.row-index (c.args.left.now.width + c.args.right.now.width) c.row-item.result c.loop-row.out c.push_each.new.into
    c.loop-row-test.true c.row-item.is c.loop-row.invariant c.in_ok-push_each.ensures

pub returns-clause-lies : goal.returns-clause-lies
returns-clause-lies c = λ doc left right.
    let all = take_all c.loop-row.row-index c.as_slice-row-items.result.now c.loop-row-test.false ∙ c.as_slice-row-items.ensures in
    subst (RowsLieIn doc) (sym (ap (λ (list : RowList). list.rows) c.loop-row.invariant ∙ ap (λ (rows : List (List Datum)). product rows c.args.right.now.rows) all))
    (RowsLieIn-product doc c.args.left.now.rows c.args.right.now.rows left right)
