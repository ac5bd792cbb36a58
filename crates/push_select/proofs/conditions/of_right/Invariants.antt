use Rattle.std.proofs.Common.{◌≡◌, take}
use Rattle.std.specs.List.{filter}
use Rattle.scalar_ops.specs.Expressions.{does_read_from}
use Rattle.push_select.specs.Conditions.{terms_lent}
use Rattle.push_select.proofs.conditions.of_right.Given as goal

abbrev pub invariant-loop-cond : goal.invariant-loop-cond
invariant-loop-cond l = terms_lent l.right.items ≡ filter (does_read_from l.width) (terms_lent (take l.cond-index l.conds))
