use Rattle.std.proofs.Common.{◌∙◌, ◌++◌, ◌*◌, ℕ, List, Option, map, length, ap, sym}
use Rattle.span_token.specs.Extents.{Extent}
use Rattle.span_token.specs.declared.span.Span.{Span}
use Rattle.row_values.specs.Rows.{RowList}
use Rattle.aql_regex_extract.specs.Matches.{extents_of}
use Rattle.aql_regex_extract.specs.Steps.{cut_rows}
use Rattle.scalar_ops.specs.Tables.{Lists}
use Rattle.scalar_ops.specs.Views.{term_of}
use Rattle.aql_typed.specs.Meaning.{group_value, row_of}
use Rattle.row_operators.specs.Searches.{extraction_for}
use Rattle.row_operators.proofs.Cuts.{number_cut, rows_cut}
use Rattle.row_operators.proofs.found.push_found_values.Goals as goal

pub push_cut_values-requires-clause-whole : goal.push_cut_values-requires-clause-whole
push_cut_values-requires-clause-whole c =
    let e = extraction_for c.args.search in
    ap length c.as_slice.ensures.value
    ∙ (number_cut c.args.tools.now c.args.doc.now e c.args.row.now c.find.new.found.items c.in_ok-number.number c.in_ok-number.ensures.rows
    ∙ ap (λ (w : ℕ). c.in_ok-number.number * w) (sym c.width.ensures))

pub returns-clause-rows : goal.returns-clause-rows
returns-clause-rows c =
    let doc = c.args.doc.now in
    let e = extraction_for c.args.search in
    let n = c.in_ok-number.number in
    let list : Lists → List (List (Option Extent)) → RowList = λ lists rows.
    record { width = c.args.into.now.width; rows = c.args.into.now.rows ++ map (λ groups. row_of lists doc (map term_of c.args.items.now) (c.args.lead.now ++ map group_value groups)) rows } in
    c.in_ok-push_cut_values.ensures.rows
    ∙ (ap (λ (found : List (Option Span)). list c.find.new.tools (cut_rows n c.width.result (extents_of found))) c.as_slice.ensures.value
    ∙ (ap (λ (lists : Lists). list lists (cut_rows n c.width.result (extents_of c.find.new.found.items))) c.in_ok-number.ensures.same
    ∙ (ap (λ (w : ℕ). list c.args.tools.now (cut_rows n w (extents_of c.find.new.found.items))) c.width.ensures
    ∙ ap (list c.args.tools.now) (rows_cut c.args.tools.now doc e c.args.row.now c.find.new.found.items n c.in_ok-number.ensures.rows))))
