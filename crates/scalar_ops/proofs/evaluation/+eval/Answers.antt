use Rattle.std.proofs.Common.{rules, ◌≡◌, List, map, ap, ◌∙◌, refl}
use Rattle.row_values.specs.Datums.{Datum, datum_of}
use Rattle.scalar_ops.specs.Values.{applied, value}
use Rattle.scalar_ops.specs.Views.{term_of}
use Rattle.scalar_ops.specs.declared.expr.Expr.{Expr}
use Rattle.scalar_ops.proofs.Viewing.{found_of_call, few_none, few_many}
use Rattle.scalar_ops.proofs.evaluation.+eval.Goals as goal
use Rattle.scalar_ops.proofs.evaluation.+eval.Goals.{of_values-in_default-via-then-args-lt1, of_values-in_default-via-else-args-lt1+else-args-lt2+else-args-lt3}

pub evaluate-returns-in_ok-call-in-Call-clause-value :
    goal.evaluate-returns-in_ok-call-in-Call-clause-value
evaluate-returns-in_ok-call-in-Call-clause-value t c =
    let f : Expr → Datum = λ e. value c.args.tools.now c.args.doc.now c.args.row.now (term_of e) in
    found_of_call c.args.tools.now c.args.doc.now c.args.row.now c.args.expr.now c.in-Call.op c.in-Call.args (datum_of c.call.new.into) c.in-Call.is
    (c.in_ok-call-in-Call.ensures.value ∙ ap (λ (xs : List Expr). applied c.args.tools.now c.args.doc.now c.in-Call.op (map f xs)) c.as_slice.ensures.value)

pub of_values-returns-in_default : goal.of_values-returns-in_default
of_values-returns-in_default t c =
    let f : Expr → Datum = λ e. value c.args.tools.now c.args.doc.now c.args.row.now (term_of e) in
    let P : List Datum → Type 0 = λ vs. datum_of c.without_operands.result ≡ applied c.args.tools.now c.args.doc.now c.args.op vs in
    record {
      value = elim c.in_default.branch [
        | of_values-in_default-via-then-args-lt1 w ↦ few_none P f c.args.args.now (search (rules, w)) (c.without_operands.ensures.none c.args.tools.now c.args.doc.now)
        | of_values-in_default-via-else-args-lt1+else-args-lt2+else-args-lt3 w ↦ few_many P f c.args.args.now (search (rules, w)) (c.without_operands.ensures.many c.args.tools.now c.args.doc.now)
      ];
      lies = c.without_operands.ensures.lies c.args.doc.now;
      same = refl;
    }
