use Rattle.std.proofs.Common.{◌≡◌, map, take}
use Rattle.scalar_ops.specs.Expressions.{renamed}
use Rattle.scalar_ops.specs.Views.{term_of}
use Rattle.push_select.specs.Conditions.{number_by}
use Rattle.push_select.proofs.copying.+copy.Given as goal

abbrev pub invariant-all_renamed-loop-expr : goal.invariant-all_renamed-loop-expr
invariant-all_renamed-loop-expr l = map term_of l.copies.items ≡ map (λ expr. renamed (number_by l.numbers) (term_of expr)) (take l.expr-index l.exprs)
