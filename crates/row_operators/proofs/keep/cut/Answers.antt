use Rattle.std.proofs.Common.{◌∙◌, Some, ap, sym}
use Rattle.group_agg.specs.Limits.{limited}
use Rattle.aql_typed.specs.Meaning.{cut}
use Rattle.row_operators.proofs.InOrder.{in_row_order, limited_lie}
use Rattle.row_operators.proofs.keep.cut.Goals as goal

pub returns-in_ok-sort_rows-in-Some-clause-rows : goal.returns-in_ok-sort_rows-in-Some-clause-rows
returns-in_ok-sort_rows-in-Some-clause-rows c =
    in_row_order (limited c.args.order.now (Some c.in-Some.number) c.args.rows.rows) c.in_ok-out-in-Some.out c.sort_rows.new.rows c.in_ok-out-in-Some.ensures.bag c.in_ok-sort_rows-in-Some.ensures.ok
    ∙ ap (λ limit. cut c.args.order.now limit c.args.rows.rows) (sym c.in-Some.is)

pub returns-in_ok-sort_rows-in-Some-clause-lies : goal.returns-in_ok-sort_rows-in-Some-clause-lies
returns-in_ok-sort_rows-in-Some-clause-lies c = λ doc lies.
    limited_lie doc c.args.order.now (Some c.in-Some.number) c.args.rows c.in_ok-out-in-Some.out c.sort_rows.new.rows c.in_ok-out-in-Some.ensures.rows c.in_ok-sort_rows-in-Some.ensures.ok lies
