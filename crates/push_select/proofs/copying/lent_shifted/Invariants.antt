use Rattle.std.proofs.Common.{◌≡◌, ◌-◌, map, take, Bor}
use Rattle.scalar_ops.specs.declared.expr.Expr.{Expr}
use Rattle.scalar_ops.specs.Expressions.{renamed}
use Rattle.scalar_ops.specs.Views.{term_of}
use Rattle.push_select.proofs.copying.lent_shifted.Given as goal

abbrev pub invariant-loop-cond : goal.invariant-loop-cond
invariant-loop-cond l = map term_of l.copies.items ≡ map (λ (cond : Bor Expr). renamed (λ n. n - l.less) (term_of cond.now)) (take l.cond-index l.conds)
