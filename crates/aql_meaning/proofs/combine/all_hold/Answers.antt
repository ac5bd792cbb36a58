use Rattle.std.proofs.Common.{rules, ◌≡◌, ◌∙◌, false, List, map, ap₂, sym}
use Rattle.scalar_ops.specs.declared.expr.Expr.{Expr}
use Rattle.scalar_ops.specs.Tables.{Lists}
use Rattle.scalar_ops.specs.Values.{holding}
use Rattle.scalar_ops.specs.Views.{term_of}
use Rattle.aql_meaning.proofs.Nesting.{one_fails}
use Rattle.aql_meaning.proofs.combine.all_hold.Goals as goal

pub returns-then-not-branch-clause-found : goal.returns-then-not-branch-clause-found
returns-then-not-branch-clause-found c =
    let fails : c.in_ok-holds.field-0 ≡ false = search rules in
    one_fails c.args.tools.now c.args.doc.now c.args.row.now c.args.conds.now c.loop-cond.cond-index c.cond-item.result c.loop-cond-test.true c.cond-item.is
    (ap₂ (λ (lists : Lists) (conds : List Expr). holding lists c.args.doc.now (map term_of conds) c.args.row.now) (sym c.loop-cond.invariant.same) (sym c.from_ref.ensures.value)
    ∙ (sym c.in_ok-holds.ensures.found ∙ fails))
