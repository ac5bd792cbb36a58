use Rattle.std.proofs.Common.{◌∙◌, ◌++◌, List, map, ap}
use Rattle.std.specs.List.{flat_map}
use Rattle.std.proofs.lemmas.List.{take_all}
use Rattle.row_values.specs.Datums.{Datum}
use Rattle.row_values.specs.Rows.{RowList}
use Rattle.scalar_ops.specs.Tables.{Lists}
use Rattle.scalar_ops.specs.Expressions.{Term}
use Rattle.scalar_ops.specs.Views.{term_of}
use Rattle.aql_typed.specs.Meaning.{found_in, group_value, row_of}
use Rattle.algebra.specs.Operators.{with_found}
use Rattle.row_operators.specs.Passes.{given-next}
use Rattle.row_operators.specs.Searches.{extraction_for}
use Rattle.plan_operators.proofs.Pairing.{values-found}
use Rattle.plan_operators.proofs.extract.found_values.Goals as goal

pub loop-row-preserved : goal.loop-row-preserved
loop-row-preserved c =
    let e = extraction_for c.args.search in
    let doc = c.args.doc.now in
    let values : Lists → List Datum → List (List Datum) = λ lists row. map (λ groups. row_of lists doc (map term_of c.as_slice-items.result.now) (row ++ map group_value groups)) (found_in lists doc e row) in
    record {
      rows = given-next (values c.args.tools.now) c.as_slice-row-items.result.now c.loop-row.row-index c.row-item.result c.loop-row.out.rows c.push_found_values.new.into.rows
          c.loop-row-test.true c.row-item.is c.loop-row.invariant.rows
          (ap (λ (list : RowList). list.rows) c.in_ok-push_found_values.ensures.rows
          ∙ ap (λ (lists : Lists). c.loop-row.out.rows ++ values lists c.row-item.result) c.loop-row.invariant.same);
      width = ap (λ (list : RowList). list.width) c.in_ok-push_found_values.ensures.rows ∙ c.loop-row.invariant.width;
      lies = c.in_ok-push_found_values.ensures.lies c.loop-row.invariant.lies;
      same = c.in_ok-push_found_values.ensures.same ∙ c.loop-row.invariant.same;
    }

pub returns-clause-rows : goal.returns-clause-rows
returns-clause-rows c =
    let lists = c.args.tools.now in
    let doc = c.args.doc.now in
    let e = extraction_for c.args.search in
    let values : List Datum → List (List Datum) = λ row. map (λ groups. row_of lists doc (map term_of c.as_slice-items.result.now) (row ++ map group_value groups)) (found_in lists doc e row) in
    c.loop-row.invariant.rows
    ∙ (ap (flat_map values) (take_all c.loop-row.row-index c.as_slice-row-items.result.now c.loop-row-test.false ∙ c.as_slice-row-items.ensures)
    ∙ (values-found lists doc e (row_of lists doc (map term_of c.as_slice-items.result.now)) c.args.rows.now.rows
    ∙ ap (λ (items : List Term). map (row_of lists doc items) (with_found lists doc e c.args.rows.now.rows)) c.as_slice-items.ensures))
