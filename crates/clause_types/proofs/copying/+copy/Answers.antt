use Rattle.std.proofs.Common.{◌∙◌, ap, sym, map, List}
use Rattle.scalar_ops.specs.Expressions.{Term, call, terms}
use Rattle.scalar_ops.specs.Views.{term_of}
use Rattle.scalar_ops.specs.declared.expr.Expr.{Expr}
use Rattle.clause_types.proofs.ExprViews.{call_view}
use Rattle.clause_types.proofs.copying.+copy.Goals as goal

pub copied-returns-in_ok-args-in-Call : goal.copied-returns-in_ok-args-in-Call
copied-returns-in_ok-args-in-Call t c =
    call_view c.in-Call.op c.in_ok-args-in-Call.args
    ∙ (ap (λ (ts : List Term). call c.in-Call.op (terms ts)) c.in_ok-args-in-Call.ensures
    ∙ (ap (λ (xs : List Expr). call c.in-Call.op (terms (map term_of xs))) c.deref.ensures.value
    ∙ (sym (call_view c.in-Call.op c.in-Call.args) ∙ sym (ap (λ (e : Expr). term_of e) c.in-Call.is))))
