use Rattle.std.proofs.Common.{◌∙◌, ap, map, List}
use Rattle.scalar_ops.specs.Expressions.{renamed}
use Rattle.scalar_ops.specs.Views.{term_of}
use Rattle.scalar_ops.specs.declared.expr.Expr.{Expr}
use Rattle.push_select.specs.Conditions.{number_by}
use Rattle.push_select.proofs.ExprViews.{renamed_call, copies_more}
use Rattle.push_select.proofs.copying.+copy.Goals as goal

pub renamed-returns-in_ok-args-in-Call : goal.renamed-returns-in_ok-args-in-Call
renamed-returns-in_ok-args-in-Call t c =
    renamed_call (number_by c.args.numbers) c.args.expr.now c.in-Call.op c.in-Call.args c.in_ok-args-in-Call.args c.in-Call.is
    (c.in_ok-args-in-Call.ensures ∙ ap (λ (xs : List Expr). map (λ (x : Expr). renamed (number_by c.args.numbers) (term_of x)) xs) c.deref.ensures.value)

pub all_renamed-loop-expr-preserved : goal.all_renamed-loop-expr-preserved
all_renamed-loop-expr-preserved t c =
    copies_more (λ (x : Expr). renamed (number_by c.args.numbers) (term_of x)) c.args.exprs.now c.loop-expr.expr-index c.expr-item.result c.loop-expr.copies.items c.push.new.self.items c.in_ok-renamed.field-0
    c.loop-expr-test.true c.expr-item.is c.loop-expr.invariant c.in_ok-push.ensures.items c.in_ok-renamed.ensures
