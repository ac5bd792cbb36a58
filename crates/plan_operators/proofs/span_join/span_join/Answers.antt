use Rattle.aql_base.specs.BagLaws.{SameBag-sym}
use Rattle.row_values.specs.RowBags.{RowsLieIn-SameBag}
use Rattle.span_joins.specs.JoinLaws.{RowsLieIn-joined_where}
use Rattle.span_joins.specs.Joins.{joined_where}
use Rattle.algebra.specs.Operators.{does_join}
use Rattle.plan_operators.proofs.span_join.span_join.Goals as goal

pub returns-clause-lies : goal.returns-clause-lies
returns-clause-lies c =
    let test = does_join c.args.doc.now c.args.kind in
    let all = joined_where test c.args.left.now.rows c.args.lc c.args.right.now.rows c.args.rc in
    RowsLieIn-SameBag c.args.doc.now all c.in_ok-out.out.rows (SameBag-sym c.in_ok-out.out.rows all c.in_ok-out.ensures.rows)
    (RowsLieIn-joined_where test c.args.lc c.args.rc c.args.doc.now c.args.left.now.rows c.args.right.now.rows c.requires.left_in_document c.requires.right_in_document)
