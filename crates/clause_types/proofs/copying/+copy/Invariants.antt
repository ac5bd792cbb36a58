use Rattle.std.proofs.Common.{◌≡◌, map, take}
use Rattle.scalar_ops.specs.Views.{term_of}
use Rattle.clause_types.proofs.copying.+copy.Given as goal

abbrev pub invariant-all_copied-loop-expr : goal.invariant-all_copied-loop-expr
invariant-all_copied-loop-expr l = map term_of l.copies.items ≡ map term_of (take l.expr-index l.exprs)
