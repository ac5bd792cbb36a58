use Rattle.std.proofs.Common.{◌≡◌, take}
use Rattle.scalar_ops.specs.SideLaws.{left_conditions}
use Rattle.push_select.specs.Conditions.{terms_lent}
use Rattle.push_select.proofs.conditions.of_left.Given as goal

abbrev pub invariant-loop-cond : goal.invariant-loop-cond
invariant-loop-cond l = terms_lent l.left.items ≡ left_conditions l.width (terms_lent (take l.cond-index l.conds))
