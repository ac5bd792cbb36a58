use Rattle.std.proofs.Common.{◌≡◌, ◌∙◌, ℕ, List, ap, ap₂, sym, subst, Bor}
use Rattle.std.specs.List.{All}
use Rattle.scalar_ops.specs.declared.expr.Expr.{Expr}
use Rattle.scalar_ops.specs.Expressions.{Term, ReadsBelow}
use Rattle.scalar_ops.specs.SideLaws.{left_conditions, later_conditions}
use Rattle.aql_typed.specs.Meaning.{selected}
use Rattle.algebra.specs.declared.shape.Shape.{Shape}
use Rattle.plan_maker.specs.Grounds.{terms_lent}
use Rattle.plan_maker.proofs.Combining.{early-read}
use Rattle.plan_maker.proofs.Giving.{width-there, gives-is, gives-wide}
use Rattle.plan_maker.proofs.joining.narrowed.Goals as goal

pub selected-requires : goal.selected-requires
selected-requires c =
    let can = c.requires.can in
    let width : c.shape-width.result.width ≡ can.width = ap (λ (s : Shape). s.width) c.shape-width.ensures ∙ width-there _ _ _ _ can.gives in
    let now : terms_lent c.as_slice-2.result.now ≡ left_conditions can.width (terms_lent c.args.conds.now.items) =
    ap terms_lent c.as_slice-2.ensures.value ∙ (c.in_ok-now.ensures ∙ ap₂ (λ (w : ℕ) (cs : List (Bor Expr)). left_conditions w (terms_lent cs)) width c.as_slice.ensures.value) in
    record {
      can = record {
        width = can.width;
        rows = can.rows;
        gives = can.gives;
        wanted = subst (All (ReadsBelow can.width)) (sym now) (early-read can.width (terms_lent c.args.conds.now.items));
      };
    }

pub returns-clause-narrows : goal.returns-clause-narrows
returns-clause-narrows c = λ can.
    let width : c.shape-width.result.width ≡ can.width = ap (λ (s : Shape). s.width) c.shape-width.ensures ∙ width-there _ _ _ _ can.gives in
    let now : terms_lent c.as_slice-2.result.now ≡ left_conditions can.width (terms_lent c.args.conds.now.items) =
    ap terms_lent c.as_slice-2.ensures.value ∙ (c.in_ok-now.ensures ∙ ap₂ (λ (w : ℕ) (cs : List (Bor Expr)). left_conditions w (terms_lent cs)) width c.as_slice.ensures.value) in
    record {
      gives = gives-is _ _ _ _ _ (λ lists doc. ap (λ (cs : List Term). selected lists doc cs (can.rows lists doc)) now)
          (c.in_ok-n.ensures.gives (record {
            width = can.width;
            rows = can.rows;
            gives = can.gives;
            wanted = subst (All (ReadsBelow can.width)) (sym now) (early-read can.width (terms_lent c.args.conds.now.items));
          }));
      left = c.drop_early.ensures ∙ ap (λ (w : ℕ). later_conditions w (terms_lent c.args.conds.now.items)) width;
      wide = gives-wide _ _ can.width can.rows c.as_slice-plan.ensures.plan can.gives;
    }
