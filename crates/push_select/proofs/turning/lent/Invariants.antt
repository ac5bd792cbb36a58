use Rattle.std.proofs.Common.{◌≡◌, map, take}
use Rattle.scalar_ops.specs.Views.{term_of}
use Rattle.push_select.specs.Conditions.{terms_lent}
use Rattle.push_select.proofs.turning.lent.Given as goal

abbrev pub invariant-loop-cond : goal.invariant-loop-cond
invariant-loop-cond l = terms_lent l.lent.items ≡ map term_of (take l.cond-index l.conds)
