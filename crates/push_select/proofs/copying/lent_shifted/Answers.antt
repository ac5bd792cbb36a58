use Rattle.std.proofs.Common.{◌-◌, Bor}
use Rattle.scalar_ops.specs.declared.expr.Expr.{Expr}
use Rattle.scalar_ops.specs.Expressions.{renamed}
use Rattle.scalar_ops.specs.Views.{term_of}
use Rattle.push_select.proofs.ExprViews.{copies_more}
use Rattle.push_select.proofs.copying.lent_shifted.Goals as goal

pub loop-cond-preserved : goal.loop-cond-preserved
loop-cond-preserved c =
    copies_more (λ (x : Bor Expr). renamed (λ n. n - c.args.less) (term_of x.now)) c.args.conds.now c.loop-cond.cond-index c.cond-item.result c.loop-cond.copies.items c.push.new.self.items c.in_ok-renamed.field-0
    c.loop-cond-test.true c.cond-item.is c.loop-cond.invariant c.in_ok-push.ensures.items c.in_ok-renamed.ensures
