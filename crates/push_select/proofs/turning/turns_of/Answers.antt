use Rattle.std.proofs.Common.{◌≡◌, ◌∙◌, ◌-◌, not, List, map, ap, Bor}
use Rattle.std.specs.List.{filter}
use Rattle.scalar_ops.specs.declared.expr.Expr.{Expr}
use Rattle.scalar_ops.specs.Expressions.{Term, does_read_from, renamed}
use Rattle.scalar_ops.specs.Views.{term_of}
use Rattle.push_select.specs.Conditions.{terms_lent}
use Rattle.push_select.proofs.ExprViews.{terms_renamed_lent}
use Rattle.push_select.proofs.turning.turns_of.Goals as goal

pub returns : goal.returns
returns c =
    let w = c.args.width in
    let all : terms_lent c.in_ok-rest.rest.items ≡ map term_of c.args.conds.now = c.in_ok-rest.ensures in
    let behind : terms_lent c.in_ok-behind.behind.items ≡ filter (does_read_from w) (map term_of c.args.conds.now) =
    c.in_ok-behind.ensures ∙ ap (λ (ts : List Term). filter (does_read_from w) ts) (ap (λ (cs : List (Bor Expr)). terms_lent cs) c.as_slice.ensures.value ∙ all) in
    record {
      later = c.in_ok-later.ensures
          ∙ (ap (λ (cs : List (Bor Expr)). map (λ (x : Bor Expr). renamed (λ n. n - w) (term_of x.now)) cs) c.as_slice-2.ensures.value
          ∙ (terms_renamed_lent (λ n. n - w) c.in_ok-behind.behind.items ∙ ap (map (renamed (λ n. n - w))) behind));
      others = c.in_ok-others.ensures
          ∙ (ap (λ (cs : List (Bor Expr)). terms_lent cs) c.as_slice-3.ensures.value
          ∙ (c.drop_right.ensures ∙ ap (λ (ts : List Term). filter (λ t. not (does_read_from w t)) ts) all));
    }
