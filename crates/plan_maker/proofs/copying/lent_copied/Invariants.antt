use Rattle.std.proofs.Common.{◌≡◌, map, take}
use Rattle.scalar_ops.specs.Views.{term_of}
use Rattle.plan_maker.specs.Grounds.{terms_lent}
use Rattle.plan_maker.proofs.copying.lent_copied.Given as goal

abbrev pub invariant-loop-expr : goal.invariant-loop-expr
invariant-loop-expr l = map term_of l.copies.items ≡ terms_lent (take l.expr-index l.exprs)
