use Rattle.std.proofs.Common.{◌≡◌, take}
use Rattle.scalar_ops.specs.SideLaws.{left_conditions}
use Rattle.plan_maker.specs.Grounds.{terms_lent}
use Rattle.plan_maker.proofs.conditions.early.Given as goal

abbrev pub invariant-loop-cond : goal.invariant-loop-cond
invariant-loop-cond l = terms_lent l.early.items ≡ left_conditions l.width (terms_lent (take l.cond-index l.conds))
