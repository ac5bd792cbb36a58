use Rattle.std.proofs.Common.{◌∙◌, ℕ, List, length, ap, arith}
use Rattle.std.specs.List.{range_with_len}
use Rattle.std.proofs.lemmas.List.{length-append}
use Rattle.row_values.specs.Datums.{Datum}
use Rattle.row_values.specs.Rows.{sorted}
use Rattle.group_agg.specs.Groups.{grouped}
use Rattle.aql_meaning.proofs.Columns.{columns_are, columns_below, keys_there}
use Rattle.aql_meaning.proofs.project.grouped.Goals as goal

pub grouped_in_order-requires-clause-keys_there : goal.grouped_in_order-requires-clause-keys_there
grouped_in_order-requires-clause-keys_there c =
    let are = columns_are c.as_slice-2.result.now c.in_ok-columns.columns.items c.as_slice.result.now c.args.keys.now c.as_slice-2.ensures.value c.in_ok-columns.ensures c.as_slice.ensures in
    columns_below c.as_slice-2.result.now (length c.args.keys.now) c.in_ok-values.values.width are
    (omega (arith, c.in_ok-values.ensures.width, length-append c.args.keys.now c.args.arguments.now))

pub grouped_in_order-requires-clause-aggs_there : goal.grouped_in_order-requires-clause-aggs_there
grouped_in_order-requires-clause-aggs_there c =
    let are = columns_are c.as_slice-2.result.now c.in_ok-columns.columns.items c.as_slice.result.now c.args.keys.now c.as_slice-2.ensures.value c.in_ok-columns.ensures c.as_slice.ensures in
    keys_there c.as_slice-2.result.now (length c.args.keys.now) c.args.aggs.now are c.requires.keys_there

pub returns-clause-rows : goal.returns-clause-rows
returns-clause-rows c =
    let are = columns_are c.as_slice-2.result.now c.in_ok-columns.columns.items c.as_slice.result.now c.args.keys.now c.as_slice-2.ensures.value c.in_ok-columns.ensures c.as_slice.ensures in
    c.in_ok-out.ensures.rows ∙ (ap (λ (columns : List ℕ). sorted (grouped columns c.args.aggs.now c.in_ok-values.values.rows)) are
    ∙ ap (λ (rows : List (List Datum)). sorted (grouped (range_with_len 0 (length c.args.keys.now)) c.args.aggs.now rows)) c.in_ok-values.ensures.rows)

pub returns-clause-lies : goal.returns-clause-lies
returns-clause-lies c = c.in_ok-out.ensures.lies c.args.doc.now c.in_ok-values.ensures.lies
