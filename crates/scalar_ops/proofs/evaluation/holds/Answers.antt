use Rattle.scalar_ops.proofs.Viewing.{holding_of_exprs}
use Rattle.scalar_ops.proofs.evaluation.holds.Goals as goal

pub returns-clause-found : goal.returns-clause-found
returns-clause-found c =
    holding_of_exprs c.args.tools.now c.args.doc.now c.args.row.now c.args.conds.now c.in_ok-found.found c.in_ok-found.ensures.value
