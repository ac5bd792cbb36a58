use Rattle.std.proofs.Common.{◌≡◌, ◌∙◌, List, Option, length, map, sym, ap, subst, arith}
use Rattle.span_token.specs.Extents.{Extent}
use Rattle.span_token.specs.declared.span.Span.{Span}
use Rattle.row_values.specs.Datums.{Datum, span_of}
use Rattle.row_values.specs.Rows.{RowsLieIn, sorted}
use Rattle.scalar_ops.specs.Values.{value}
use Rattle.scalar_ops.specs.Views.{term_of}
use Rattle.span_sets.specs.Consolidation.{target_of}
use Rattle.plan_operators.proofs.Keeping.{order_lies, order_long, order_targets, kept_lie}
use Rattle.plan_operators.proofs.consolidation.copies_kept.Goals as goal

pub targets_of-requires : goal.targets_of-requires
targets_of-requires c =
    let is : map (λ row. row.now) c.as_slice.result.now ≡ sorted c.args.rows.now.rows = ap (map (λ row. row.now)) c.as_slice.ensures.value ∙ c.in_ok-order.ensures.rows in
    record { in_document = order_lies (λ row. row.now) c.as_slice.result.now c.args.rows.now.rows is c.args.doc.now c.requires.in_document }

pub consolidated-requires-clause-one_target_each : goal.consolidated-requires-clause-one_target_each
consolidated-requires-clause-one_target_each c =
    let is : map (λ row. row.now) c.as_slice.result.now ≡ sorted c.args.rows.now.rows = ap (map (λ row. row.now)) c.as_slice.ensures.value ∙ c.in_ok-order.ensures.rows in
    omega (arith, ap (λ (ts : List (Option Span)). length ts) c.as_slice-3.ensures.value, c.in_ok-targets.targets.ok.0, c.in_ok-targets.ensures.number, order_long (λ row. row.now) c.as_slice.result.now c.args.rows.now.rows is)

pub returns-clause-rows : goal.returns-clause-rows
returns-clause-rows c =
    let is : map (λ row. row.now) c.as_slice.result.now ≡ sorted c.args.rows.now.rows = ap (map (λ row. row.now)) c.as_slice.ensures.value ∙ c.in_ok-order.ensures.rows in
    let target : List Datum → Option Extent = λ row. span_of (value c.args.tools.now c.args.doc.now row (term_of c.args.target.now)) in
    c.in_ok-out.ensures.list target
    (ap (λ (ts : List (Option Span)). map target_of ts) c.as_slice-3.ensures.value ∙ (c.in_ok-targets.ensures.targets ∙ order_targets (λ row. row.now) c.as_slice.result.now c.args.rows.now.rows is target))

pub returns-clause-lies : goal.returns-clause-lies
unfolding returns-clause-rows
returns-clause-lies c =
    let target : List Datum → Option Extent = λ row. span_of (value c.args.tools.now c.args.doc.now row (term_of c.args.target.now)) in
    subst (RowsLieIn c.args.doc.now) (sym (returns-clause-rows c)) (kept_lie c.args.doc.now c.args.policy target c.args.rows.now.rows c.requires.in_document)
