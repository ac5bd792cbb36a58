use Rattle.std.proofs.Common.{◌<◌, ◌++◌, List, map, length, subst}
use Rattle.scalar_ops.specs.declared.expr.Expr.{Expr}
use Rattle.scalar_ops.specs.Views.{term_of}
use Rattle.aql_meaning.specs.Nests.{HoldAlike, terms_lent}
use Rattle.aql_meaning.proofs.Parting.{and_put, parts_none, parts_more, parts_all}
use Rattle.aql_meaning.proofs.nest.+parts.Goals as goal

pub push_all_parts-loop-cond-init : goal.push_all_parts-loop-cond-init
push_all_parts-loop-cond-init t c = parts_none (terms_lent c.args.into.now.items) c.args.conds.now

pub push_all_parts-loop-cond-preserved : goal.push_all_parts-loop-cond-preserved
push_all_parts-loop-cond-preserved t c =
    parts_more (terms_lent c.args.into.now.items) (terms_lent c.loop-cond.into.items) (terms_lent c.push_parts.new.into.items) c.args.conds.now c.loop-cond.cond-index c.cond-item.result
    c.loop-cond-test.true c.cond-item.is c.loop-cond.invariant c.in_ok-push_parts.ensures

pub push_all_parts-returns : goal.push_all_parts-returns
push_all_parts-returns t c =
    parts_all (terms_lent c.args.into.now.items) (terms_lent c.loop-cond.into.items) c.args.conds.now c.loop-cond.cond-index c.loop-cond-test.false c.loop-cond.invariant

pub push_parts-returns-then-joins : goal.push_parts-returns-then-joins
push_parts-returns-then-joins t c =
    let before = terms_lent c.args.into.now.items in
    let after = terms_lent c.push_all_parts.new.into.items in
    let joins = c.if-joins.ensures in
    and_put before after c.args.cond.now c.in-Call.op c.in-Call.args c.in-Call.is joins.0 (subst (λ (args : List Expr). 0 < length args) c.deref.ensures.value joins.1)
    (subst (λ (conds : List Expr). HoldAlike after (before ++ map term_of conds)) c.as_slice.ensures.value c.in_ok-push_all_parts.ensures)
