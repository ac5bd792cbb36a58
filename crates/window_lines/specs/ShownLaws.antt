-- What the outputs of a plan show, by the rows that its nodes have.
use Rattle.std.proofs.Common.{◌≡◌, ℕ, List, [], ◌∷◌, map, length, refl, sym, subst, ap₂, ◌∙◌, All, Option, Some, None, slice_index_or}
use Rattle.std.specs.List.{AllZip}
use Rattle.std.proofs.lemmas.Simd.{map-map}
use Rattle.std.proofs.lemmas.List.Elements.{All-nil, All-cons, All-head, All-tail}
use Rattle.aql_base.specs.Bags.{SameBag}
use Rattle.span_token.specs.Documents.{Doc}
use Rattle.row_values.specs.Datums.{Datum}
use Rattle.row_values.specs.Outputs.{OutputNames}
use Rattle.row_values.specs.Rows.{RowList, RowsLieIn}
use Rattle.algebra.specs.declared.output.PlanOut.{PlanOut}
use Rattle.algebra.specs.Plans.{Parts, IsOutput}
use Rattle.algebra.specs.Shapes.{shapes_of}
use Rattle.algebra.specs.Values.{val}
use Rattle.plan_operators.specs.Boards.{Holds, rows_there}
use Rattle.run_pool.specs.Answers.{IsAnswer}
use Rattle.run_pool.specs.Lines.{AreSameBags, rows_by}

-- the list of an output
abbrev pub list_of : List (Option RowList) → PlanOut → RowList
list_of board out = rows_there (slice_index_or board out.node None)

module _ (plan : Parts) (doc : Doc) (board : List (Option RowList)) where
  -- the output's node has its rows on the board
  abbrev pub IsShown : PlanOut → Type 0
  IsShown out = Holds plan.lists doc plan.nodes out.node (slice_index_or board out.node None)

  same : (o : Option RowList) (n : ℕ) → Holds plan.lists doc plan.nodes n o → SameBag (rows_there o).rows (val plan.lists doc plan.nodes n)
  same None n holds = absurd holds
  same (Some list) n holds = holds.same

  wide : (o : Option RowList) (out : PlanOut) → Holds plan.lists doc plan.nodes out.node o → IsOutput (shapes_of plan.nodes) out → (rows_there o).width ≡ length out.names.columns
  wide None out holds is = absurd holds
  wide (Some list) out holds is = holds.wide ∙ sym is.columns

  lies : (o : Option RowList) (n : ℕ) → Holds plan.lists doc plan.nodes n o → RowsLieIn doc (rows_there o).rows
  lies None n holds = absurd holds
  lies (Some list) n holds = holds.lies

  pub same_bags : (outs : List PlanOut) → All IsShown outs
      → AllZip SameBag (map (λ (out : PlanOut). (list_of board out).rows) outs) (map (λ (out : PlanOut). val plan.lists doc plan.nodes out.node) outs)
  same_bags [] all = tt
  same_bags (out ∷ outs) all =
      (same (slice_index_or board out.node None) out.node (All-head IsShown out outs all), same_bags outs (All-tail IsShown out outs all))

  pub widths_shown : (outs : List PlanOut) → All IsShown outs → All (IsOutput (shapes_of plan.nodes)) outs
      → map (λ (out : PlanOut). (list_of board out).width) outs ≡ map (λ (out : PlanOut). length out.names.columns) outs
  widths_shown [] all are = refl
  widths_shown (out ∷ outs) all are =
      ap₂ (λ (n : ℕ) (ns : List ℕ). n ∷ ns)
      (wide (slice_index_or board out.node None) out (All-head IsShown out outs all) (All-head (IsOutput (shapes_of plan.nodes)) out outs are))
      (widths_shown outs (All-tail IsShown out outs all) (All-tail (IsOutput (shapes_of plan.nodes)) out outs are))

  pub rows_lie : (outs : List PlanOut) → All IsShown outs → All (RowsLieIn doc) (map (λ (out : PlanOut). (list_of board out).rows) outs)
  rows_lie [] all = All-nil (RowsLieIn doc)
  rows_lie (out ∷ outs) all =
      All-cons (RowsLieIn doc) (list_of board out).rows (map (λ (out : PlanOut). (list_of board out).rows) outs)
      (lies (slice_index_or board out.node None) out.node (All-head IsShown out outs all)) (rows_lie outs (All-tail IsShown out outs all))

  -- so the lists are an answer with what was found
  pub shown_answer : All IsShown plan.outputs → All (IsOutput (shapes_of plan.nodes)) plan.outputs → IsAnswer rows_by plan doc (map (list_of board) plan.outputs)
  shown_answer all valid = record {
    bags = subst (λ (lists : List (List (List Datum))). AreSameBags lists (rows_by plan doc))
        (sym (map-map (λ (list : RowList). list.rows) (list_of board) plan.outputs)) (same_bags plan.outputs all);
    wide = map-map (λ (list : RowList). list.width) (list_of board) plan.outputs ∙ widths_shown plan.outputs all valid
        ∙ sym (map-map (λ (output : OutputNames). length output.columns) (λ (out : PlanOut). out.names) plan.outputs);
    lies = subst (All (RowsLieIn doc)) (sym (map-map (λ (list : RowList). list.rows) (list_of board) plan.outputs)) (rows_lie plan.outputs all);
  }
