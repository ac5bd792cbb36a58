use Rattle.std.proofs.Common.{◌≡◌, ◌∙◌, ◌++◌, ◌*◌, ℕ, List, Option, map, length, ap, sym}
use Rattle.span_token.specs.declared.span.Span.{Span}
use Rattle.row_values.specs.Datums.{Datum}
use Rattle.row_values.specs.Rows.{RowList}
use Rattle.aql_regex_extract.specs.Matches.{extents_of}
use Rattle.aql_regex_extract.specs.Steps.{cut_rows}
use Rattle.aql_typed.specs.Meaning.{group_value}
use Rattle.row_operators.specs.Searches.{extraction_for}
use Rattle.row_operators.proofs.Cuts.{number_cut, puts_found, puts_lying}
use Rattle.row_operators.proofs.found.push_found.Goals as goal

pub push_cut-requires-clause-whole : goal.push_cut-requires-clause-whole
push_cut-requires-clause-whole c =
    let e = extraction_for c.args.search in
    ap length c.as_slice.ensures.value
    ∙ (number_cut c.args.tools.now c.args.doc.now e c.args.row.now c.find.new.found.items c.in_ok-number.number c.in_ok-number.ensures.rows
    ∙ ap (λ (w : ℕ). c.in_ok-number.number * w) (sym c.width.ensures))

-- what is put for the entries that were found, as they are lent
put : (before after : RowList) (lead : List Datum) (number width : ℕ) (lent found : List (Option Span)) → lent ≡ found
    → after ≡ record { width = before.width; rows = before.rows ++ map (λ groups. lead ++ map group_value groups) (cut_rows number width (extents_of lent)) }
    → after ≡ record { width = before.width; rows = before.rows ++ map (λ groups. lead ++ map group_value groups) (cut_rows number width (extents_of found)) }
put before after lead number width lent found same is =
    is ∙ ap (λ (found : List (Option Span)). record { width = before.width; rows = before.rows ++ map (λ groups. lead ++ map group_value groups) (cut_rows number width (extents_of found)) }) same

pub returns-clause-rows : goal.returns-clause-rows
returns-clause-rows c =
    puts_found c.args.tools.now c.args.doc.now (extraction_for c.args.search) c.args.row.now c.args.lead.now c.find.new.found.items
    c.in_ok-number.number c.width.result c.args.into.now c.push_cut.new.into c.in_ok-number.ensures.rows c.width.ensures
    (put c.args.into.now c.push_cut.new.into c.args.lead.now c.in_ok-number.number c.width.result c.as_slice.result.now c.find.new.found.items c.as_slice.ensures.value c.in_ok-push_cut.ensures)

pub returns-clause-lies : goal.returns-clause-lies
returns-clause-lies c = λ old.
    puts_lying c.args.doc.now c.args.lead.now c.find.new.found.items c.in_ok-number.number c.width.result c.args.into.now c.push_cut.new.into
    (put c.args.into.now c.push_cut.new.into c.args.lead.now c.in_ok-number.number c.width.result c.as_slice.result.now c.find.new.found.items c.as_slice.ensures.value c.in_ok-push_cut.ensures)
    c.requires.lead_in_document c.in_ok-number.ensures.lies old
