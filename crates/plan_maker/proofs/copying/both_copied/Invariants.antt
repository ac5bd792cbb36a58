use Rattle.std.proofs.Common.{◌≡◌, ◌++◌, map, take}
use Rattle.scalar_ops.specs.Views.{term_of}
use Rattle.plan_maker.proofs.copying.both_copied.Given as goal

abbrev pub invariant-loop-expr : goal.invariant-loop-expr
invariant-loop-expr l = map term_of l.copies.items ≡ map term_of l.first ++ map term_of (take l.expr-index l.second)
