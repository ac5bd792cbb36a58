use Rattle.group_agg.specs.Groups.{grouped}
use Rattle.row_operators.proofs.InOrder.{in_row_order, groups_lie}
use Rattle.row_operators.proofs.groups.grouped_in_order.Goals as goal

pub returns-clause-rows : goal.returns-clause-rows
returns-clause-rows c = in_row_order (grouped c.args.keys.now c.args.aggs.now c.args.rows.now.rows) c.in_ok-out.out c.sort_rows.new.rows c.in_ok-out.ensures.bag c.in_ok-sort_rows.ensures.ok

pub returns-clause-lies : goal.returns-clause-lies
returns-clause-lies c = λ doc.
    groups_lie doc c.args.keys.now c.args.aggs.now c.args.rows.now.rows c.sort_rows.new.rows.rows
    (in_row_order (grouped c.args.keys.now c.args.aggs.now c.args.rows.now.rows) c.in_ok-out.out c.sort_rows.new.rows c.in_ok-out.ensures.bag c.in_ok-sort_rows.ensures.ok)
