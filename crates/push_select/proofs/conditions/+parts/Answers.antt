use Rattle.std.proofs.Common.{rules, ◌≡◌, ◌∙◌, ◌&&◌, Bool, List, map, ap, sym, subst, arith}
use Rattle.std.specs.List.{All}
use Rattle.scalar_ops.specs.declared.expr.Expr.{Expr}
use Rattle.scalar_ops.specs.declared.expr.Expr.TheVariants as expr
use Rattle.scalar_ops.specs.declared.op.Op.{Op}
use Rattle.scalar_ops.specs.declared.op.Op.TheVariants.{And}
use Rattle.scalar_ops.specs.Expressions.{ReadsBelow}
use Rattle.scalar_ops.specs.Values.{holding}
use Rattle.scalar_ops.specs.Views.{term_of}
use Rattle.push_select.specs.Conditions.{terms_lent}
use Rattle.push_select.proofs.Parting.{parts_read, parts_hold, holding_more, reads_at, apart_empty}
use Rattle.push_select.proofs.conditions.+parts.Goals as goal

pub push_all-loop-cond-preserved : goal.push_all-loop-cond-preserved
push_all-loop-cond-preserved t c = record {
  same = λ lists doc row.
      holding_more lists doc row c.args.conds.now c.loop-cond.cond-index c.cond-item.result _ _ _ c.loop-cond-test.true c.cond-item.is (c.loop-cond.invariant.same lists doc row) (c.in_ok-push_parts.ensures.same lists doc row);
  reads = λ width old all.
      c.in_ok-push_parts.ensures.reads width (c.loop-cond.invariant.reads width old all) (reads_at width c.args.conds.now c.loop-cond.cond-index c.cond-item.result c.loop-cond-test.true c.cond-item.is all);
  apart = λ old. c.in_ok-push_parts.ensures.apart (c.loop-cond.invariant.apart old);
}

pub push_parts-returns-in_ok-push_all-in-And-clause-same : goal.push_parts-returns-in_ok-push_all-in-And-clause-same
push_parts-returns-in_ok-push_all-in-And-clause-same t c = λ lists doc row.
    let args = c.in-Call.args in
    let is : c.args.cond.now ≡ expr.Call And args = c.in-Call.is ∙ ap (λ (o : Op). expr.Call o args) c.in-And.is in
    c.in_ok-push_all-in-And.ensures.same lists doc row
    ∙ ap (λ (b : Bool). holding lists doc (terms_lent c.args.into.now.items) row && b)
    (ap (λ (es : List Expr). holding lists doc (map term_of es) row) c.as_slice.ensures.value ∙ parts_hold c.args.cond.now args is lists doc row (search (rules, arith)))

pub push_parts-returns-in_ok-push_all-in-And-clause-reads : goal.push_parts-returns-in_ok-push_all-in-And-clause-reads
push_parts-returns-in_ok-push_all-in-And-clause-reads t c = λ width old reads.
    let args = c.in-Call.args in
    let is : c.args.cond.now ≡ expr.Call And args = c.in-Call.is ∙ ap (λ (o : Op). expr.Call o args) c.in-And.is in
    c.in_ok-push_all-in-And.ensures.reads width old
    (subst (λ (es : List Expr). All (ReadsBelow width) (map term_of es)) (sym c.as_slice.ensures.value) (parts_read c.args.cond.now args is width reads))

pub push_parts-push_apart-requires : goal.push_parts-push_apart-requires
push_parts-push_apart-requires t c =
    record { apart = apart_empty c.args.cond.now c.in-Call.op c.in-Call.args c.in-Call.is (search (rules, arith)) }
