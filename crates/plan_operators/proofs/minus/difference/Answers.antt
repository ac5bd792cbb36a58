use Rattle.std.proofs.Common.{◌≡◌, sym, subst}
use Rattle.std.specs.List.{All}
use Rattle.std.proofs.lemmas.Result.{IfOk-weaker}
use Rattle.row_values.specs.Datums.{IsOfDocument}
use Rattle.row_values.specs.Rows.{RowList, RowsLieIn, minus}
use Rattle.row_values.specs.RowBags.{All-minus}
use Rattle.plan_operators.specs.declared.input.Input.{Input}
use Rattle.plan_operators.specs.Given.{input_rows}
use Rattle.plan_operators.proofs.minus.difference.Goals as goal

pub returns-in-Given-clause-lies : goal.returns-in-Given-clause-lies
returns-in-Given-clause-lies c = λ doc lies. c.without.ensures.lies doc (subst (λ (i : Input). RowsLieIn doc (input_rows i).rows) c.in-Given.is lies)

pub returns-in-Lent-clause-lies : goal.returns-in-Lent-clause-lies
returns-in-Lent-clause-lies c = λ doc lies.
    IfOk-weaker c.copies_without.result (λ (out : RowList). out.rows ≡ minus c.in-Lent.rows.now.rows c.args.right.now.rows) (λ (out : RowList). RowsLieIn doc out.rows)
    (λ out is. subst (RowsLieIn doc) (sym is) (All-minus (All (IsOfDocument doc)) c.in-Lent.rows.now.rows c.args.right.now.rows (subst (λ (i : Input). RowsLieIn doc (input_rows i).rows) c.in-Lent.is lies)))
    c.copies_without.ensures.rows
