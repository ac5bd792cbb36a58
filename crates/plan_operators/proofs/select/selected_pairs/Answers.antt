use Rattle.std.proofs.Common.{◌∙◌, ◌++◌, List, map, ap, sym, subst}
use Rattle.std.specs.List.{flat_map}
use Rattle.std.proofs.lemmas.List.{take_all}
use Rattle.row_values.specs.Datums.{Datum}
use Rattle.row_values.specs.Rows.{RowsLieIn, product}
use Rattle.scalar_ops.specs.Views.{term_of}
use Rattle.aql_typed.specs.Meaning.{selected}
use Rattle.plan_operators.proofs.Pairing.{selected-product, pairs_lie}
use Rattle.plan_operators.proofs.select.selected_pairs.Goals as goal

pub returns-clause-rows : goal.returns-clause-rows
returns-clause-rows c =
    let lists = c.args.tools.now in
    let doc = c.args.doc.now in
    let right = c.args.right.now.rows in
    let all = take_all c.loop-row.row-index c.as_slice-row-items.result.now c.loop-row-test.false ∙ c.as_slice-row-items.ensures in
    c.loop-row.invariant.rows
    ∙ ap (flat_map (λ (row : List Datum). selected lists doc (map term_of c.as_slice-conds.result.now) (map (λ other. row ++ other) right))) all
    ∙ selected-product lists doc (map term_of c.as_slice-conds.result.now) c.args.left.now.rows right
    ∙ ap (λ conds. selected lists doc conds (product c.args.left.now.rows right)) c.as_slice-conds.ensures

pub returns-clause-lies : goal.returns-clause-lies
returns-clause-lies c =
    subst (RowsLieIn c.args.doc.now) (sym (returns-clause-rows c))
    (pairs_lie c.args.tools.now c.args.doc.now c.args.conds.now c.args.left.now.rows c.args.right.now.rows c.requires.left_in_document c.requires.right_in_document)
