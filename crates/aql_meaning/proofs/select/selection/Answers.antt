use Rattle.std.proofs.Common.{◌≡◌, ◌∙◌, List, map, option_map, ap, ap₂, sym, subst, Bor}
use Rattle.std.specs.List.{All}
use Rattle.row_values.specs.Datums.{Datum}
use Rattle.row_values.specs.Rows.{RowsLieIn}
use Rattle.row_values.specs.declared.rows.Rows.{Rows}
use Rattle.scalar_ops.specs.Tables.{Lists}
use Rattle.aql_typed.specs.Meaning.{selected, kept, projected, cut}
use Rattle.aql_typed.specs.Views.{consolidation_of, projection_of, source_of}
use Rattle.aql_meaning.specs.Sources.{products, source_list}
use Rattle.aql_meaning.proofs.Lending.{rows_lent}
use Rattle.aql_meaning.proofs.select.selection.Goals as goal

pub combined-requires : goal.combined-requires
combined-requires c = record {
  in_document = subst (All (λ (list : Bor Rows). RowsLieIn c.args.doc.now list.now.rows)) (sym c.as_slice.ensures.value)
      (c.in_ok-lent.ensures.lies c.args.doc.now c.requires.below_in_document c.requires.own_in_document);
}

pub returns-clause-rows : goal.returns-clause-rows
returns-clause-rows c =
    let lists = c.args.tools.now in
    let doc = c.args.doc.now in
    let clauses = c.args.clauses.now in
    let sources = map (λ source. source_list lists doc c.args.below.now (source_of source)) c.args.sources.now in
    let lent : map (λ list. list.now) c.as_slice.result.now ≡ sources =
    ap (map (λ (list : Bor Rows). list.now)) c.as_slice.ensures.value ∙ c.in_ok-lent.ensures.lists lists doc c.requires.own in
    let rows = c.in_ok-rows.ensures.rows ∙ ap (λ (each : List (List (List Datum))). selected lists doc clauses.conds (products each)) (rows_lent (λ list. list.now) c.as_slice.result.now sources lent) in
    c.in_ok-out.ensures.rows
    ∙ ap₂ (λ (l : Lists) (rows : List (List Datum)). cut clauses.order.items clauses.limit (projected l doc (projection_of clauses.projection) (kept l doc (option_map consolidation_of clauses.consolidate) rows)))
    c.in_ok-rows.ensures.same rows
