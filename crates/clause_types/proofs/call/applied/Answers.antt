use Rattle.std.proofs.Common.{◌∙◌, ap, ap₂, List, map}
use Rattle.scalar_ops.specs.declared.op.Op.{Op}
use Rattle.scalar_ops.specs.Expressions.{Term, call, terms}
use Rattle.clause_types.specs.declared.given.Given.{Given}
use Rattle.clause_types.specs.Calls.{operator}
use Rattle.clause_types.specs.Knowns.{known_of}
use Rattle.clause_types.specs.Typings.{Typing, terms_meant}
use Rattle.clause_types.specs.Views.{seen}
use Rattle.clause_types.proofs.ExprViews.{call_view}
use Rattle.clause_types.proofs.call.applied.Goals as goal

pub returns : goal.returns
returns c =
    call_view c.operator-op.result c.in_ok-args.args
    ∙ ap₂ (λ (op : Op) (ts : List Term). call op (terms ts))
    (c.operator-op.ensures ∙ ap (λ (xs : List Given). operator (known_of c.args.known.now) c.args.function (map seen xs)) c.deref.ensures.value)
    (c.in_ok-args.ensures ∙ ap (λ (ts : List Typing). terms_meant ts) c.in_ok-operands.ensures)
