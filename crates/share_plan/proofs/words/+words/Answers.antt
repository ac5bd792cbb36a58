use Rattle.std.proofs.Common.{◌≡◌, ◌∙◌, ◌++◌, ap, sym, map, List}
use Rattle.scalar_ops.specs.Expressions.{Term}
use Rattle.scalar_ops.specs.Views.{term_of}
use Rattle.scalar_ops.specs.declared.expr.Expr.{Expr}
use Rattle.share_plan.specs.ExprWords.{term_words, list_words}
use Rattle.share_plan.proofs.ExprViews.{call_view}
use Rattle.share_plan.proofs.Pushing.{call_words}
use Rattle.share_plan.proofs.words.+words.Goals as goal

pub push_expr-returns-in_ok-push_op-in-Call : goal.push_expr-returns-in_ok-push_op-in-Call
push_expr-returns-in_ok-push_op-in-Call t c =
    let ts = map term_of c.in-Call.args.items in
    let given : c.push_exprs.new.words.items ≡ c.push_pair-in-Call.new.words.items ++ list_words ts =
    c.in_ok-push_exprs-in-Call.ensures ∙ ap (λ (exprs : List Expr). c.push_pair-in-Call.new.words.items ++ list_words (map term_of exprs)) c.as_slice.ensures.value in
    call_words c.args.words.now.items c.push_pair-in-Call.new.words.items c.push_exprs.new.words.items c.push_op.new.words.items c.in-Call.op ts
    c.in_ok-push_pair-in-Call.ensures given c.in_ok-push_op-in-Call.ensures
    ∙ ap (λ (t : Term). c.args.words.now.items ++ term_words t) (sym (call_view c.in-Call.op c.in-Call.args) ∙ sym (ap (λ (e : Expr). term_of e) c.in-Call.is))
