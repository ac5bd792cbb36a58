use Rattle.std.proofs.Common.{◌≡◌, ◌∙◌, ◌-◌, not, List, map, ap, Bor}
use Rattle.std.specs.List.{filter}
use Rattle.scalar_ops.specs.declared.expr.Expr.{Expr}
use Rattle.scalar_ops.specs.Expressions.{Term, does_read_from, renamed}
use Rattle.scalar_ops.specs.SideLaws.{left_conditions, later_conditions, right_conditions, joint_conditions}
use Rattle.scalar_ops.specs.Views.{term_of}
use Rattle.push_select.specs.Conditions.{terms_lent}
use Rattle.push_select.proofs.ExprViews.{terms_renamed_lent}
use Rattle.push_select.proofs.sides.by_side.Goals as goal

pub returns : goal.returns
returns c =
    let w = c.args.width in
    let parts = terms_lent c.in_ok-rest.rest.items in
    let later : terms_lent c.drop_left.new.conds.items ≡ later_conditions w parts = c.drop_left.ensures in
    let on_left : terms_lent c.in_ok-on_left.on_left.items ≡ left_conditions w parts =
    c.in_ok-on_left.ensures ∙ ap (λ (cs : List (Bor Expr)). left_conditions w (terms_lent cs)) c.as_slice.ensures.value in
    let on_right : map (renamed (λ n. n - w)) (terms_lent c.in_ok-on_right.on_right.items) ≡ right_conditions w parts =
    ap (λ (ts : List Term). map (renamed (λ n. n - w)) ts)
    (c.in_ok-on_right.ensures ∙ ap (λ (ts : List Term). filter (does_read_from w) ts) (ap (λ (cs : List (Bor Expr)). terms_lent cs) c.as_slice-2.ensures.value ∙ later)) in
    let both : terms_lent c.drop_right.new.conds.items ≡ joint_conditions w parts =
    c.drop_right.ensures ∙ ap (λ (ts : List Term). filter (λ t. not (does_read_from w t)) ts) later in
    record {
      parts = parts;
      same = c.in_ok-rest.ensures.same;
      reads = c.in_ok-rest.ensures.reads;
      apart = c.in_ok-rest.ensures.apart;
      left = c.from-left.ensures ∙ (c.in_ok-left.ensures ∙ (ap (λ (cs : List (Bor Expr)). terms_lent cs) c.as_slice-3.ensures.value ∙ on_left));
      right = c.from-right.ensures
          ∙ (c.in_ok-right.ensures
          ∙ (ap (λ (cs : List (Bor Expr)). map (λ (x : Bor Expr). renamed (λ n. n - w) (term_of x.now)) cs) c.as_slice-4.ensures.value
          ∙ (terms_renamed_lent (λ n. n - w) c.in_ok-on_right.on_right.items ∙ on_right)));
      joint = c.in_ok-joint.ensures ∙ (ap (λ (cs : List (Bor Expr)). terms_lent cs) c.as_slice-5.ensures.value ∙ both);
    }
