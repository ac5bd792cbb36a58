use Rattle.std.proofs.Common.{◌∙◌, Some, Option, ℕ, ap, sym, subst}
use Rattle.row_values.specs.Rows.{RowList, RowsLieIn}
use Rattle.row_values.specs.SortedRows.{sorted-SameBag}
use Rattle.group_agg.specs.Limits.{limited}
use Rattle.aql_typed.specs.Meaning.{cut}
use Rattle.plan_operators.proofs.Lying.{cut-lies}
use Rattle.plan_operators.proofs.order_limit.cut_copies.Goals as goal

pub returns-in_ok-sort_rows-in-Some-clause-rows : goal.returns-in_ok-sort_rows-in-Some-clause-rows
returns-in_ok-sort_rows-in-Some-clause-rows c =
    ap (λ (list : RowList). list.rows) c.in_ok-sort_rows-in-Some.ensures.ok
    ∙ (sym (sorted-SameBag (limited c.args.keys.now (Some c.in-Some.number) c.args.rows.now.rows) c.in_ok-out-in-Some.out.rows c.in_ok-out-in-Some.ensures.bag)
    ∙ ap (λ (limit : Option ℕ). cut c.args.keys.now limit c.args.rows.now.rows) (sym c.in-Some.is))

pub returns-in_ok-sort_rows-in-Some-clause-lies : goal.returns-in_ok-sort_rows-in-Some-clause-lies
returns-in_ok-sort_rows-in-Some-clause-lies c = λ doc lies.
    subst (RowsLieIn doc) (sym (ap (λ (list : RowList). list.rows) c.in_ok-sort_rows-in-Some.ensures.ok
    ∙ sym (sorted-SameBag (limited c.args.keys.now (Some c.in-Some.number) c.args.rows.now.rows) c.in_ok-out-in-Some.out.rows c.in_ok-out-in-Some.ensures.bag)))
    (cut-lies doc c.args.keys.now (Some c.in-Some.number) c.args.rows.now.rows lies)
