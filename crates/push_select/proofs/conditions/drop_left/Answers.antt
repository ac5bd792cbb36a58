use Rattle.std.proofs.Common.{rules, ◌≡◌, ◌∙◌, not, Bor, ap}
use Rattle.std.specs.List.{filter}
use Rattle.std.proofs.lemmas.Fn.{filter_same}
use Rattle.scalar_ops.specs.declared.expr.Expr.{Expr}
use Rattle.scalar_ops.specs.Expressions.{does_read_below}
use Rattle.scalar_ops.specs.Views.{term_of}
use Rattle.push_select.specs.Conditions.{terms_lent}
use Rattle.push_select.proofs.SideViews.{terms_sieved}
use Rattle.push_select.proofs.conditions.drop_left.Goals as goal

pub returns : goal.returns
returns c =
    let stays = λ (cond : Bor Expr). not (does_read_below c.args.width (term_of cond.now)) in
    let kept : c.retain.new.self.items ≡ filter stays c.args.conds.now.items = filter_same _ _ _ (λ x b f' k. search rules) _ _ c.retain.ensures.filtered in
    ap terms_lent kept ∙ terms_sieved (λ (cond : Bor Expr). term_of cond.now) (λ t. not (does_read_below c.args.width t)) c.args.conds.now.items
