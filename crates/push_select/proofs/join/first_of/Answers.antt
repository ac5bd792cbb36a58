use Rattle.scalar_ops.specs.declared.expr.Expr.{Expr}
use Rattle.scalar_ops.specs.Views.{term_of}
use Rattle.push_select.specs.Joins.{join_of, IsOfOtherRank}
use Rattle.push_select.proofs.JoinViews.{all_more, all_of, when_none}
use Rattle.push_select.proofs.join.first_of.Goals as goal

pub loop-number-preserved : goal.loop-number-preserved
loop-number-preserved c =
    all_more (λ (cond : Expr). IsOfOtherRank c.args.rank (join_of c.args.width (term_of cond))) c.args.conds.now c.loop-number.number c.index-conds-number.result c.loop-number-test.true c.index-conds-number.is c.loop-number.invariant
    (when_none (IsOfOtherRank c.args.rank (join_of c.args.width (term_of c.index-conds-number.result))) c.ranked.result c.in_default.not-Some c.ranked.ensures.none)

pub returns-clause-none : goal.returns-clause-none
returns-clause-none c =
    all_of (λ (cond : Expr). IsOfOtherRank c.args.rank (join_of c.args.width (term_of cond))) c.args.conds.now c.loop-number.number c.loop-number-test.false c.loop-number.invariant
