use Rattle.std.proofs.Common.{◌≡◌, ◌∙◌, ◌++◌, ◌∷◌, ◌-◌, ℕ, suc, List, [], Option, map, length, take, drop, ap, ap₂, sym, subst, All, arith}
use Rattle.std.proofs.lemmas.List.{take-map, drop-map, length-drop}
use Rattle.std.proofs.lemmas.List.Elements.{All-drop}
use Rattle.span_token.specs.Extents.{Extent}
use Rattle.row_values.specs.Datums.{Datum}
use Rattle.row_values.specs.Rows.{RowList}
use Rattle.aql_regex_extract.specs.Matches.{extents_of}
use Rattle.aql_regex_extract.specs.Steps.{cut_rows}
use Rattle.scalar_ops.specs.Tables.{Lists}
use Rattle.scalar_ops.specs.Views.{term_of}
use Rattle.aql_typed.specs.Meaning.{group_value, row_of}
use Rattle.row_operators.specs.Searches.{IsFoundIn}
use Rattle.row_operators.proofs.Cuts.{cut-step, one_less}
use Rattle.row_operators.proofs.found.push_cut_values.Goals as goal

pub cuts-preserved : goal.cuts-preserved
cuts-preserved c =
    let w = c.args.width in
    let doc = c.args.doc.now in
    let xs = extents_of c.cuts.rest.now in
    let value : Lists → List (Option Extent) → List Datum = λ lists groups. row_of lists doc (map term_of c.args.items.now) (c.args.lead.now ++ map group_value groups) in
    let f : List (Option Extent) → List Datum = value c.args.tools.now in
    let others : List (List (Option Extent)) = cut_rows (c.cuts.left - 1) w (extents_of c.split_at.result.1.now) in
    let n : c.cuts.left ≡ suc (c.cuts.left - 1) = omega (arith, c.cuts-test.true) in
    let front : extents_of c.split_at.result.0.now ≡ take w xs = ap extents_of c.split_at.ensures.front ∙ sym (take-map _ w c.cuts.rest.now) in
    let back : extents_of c.split_at.result.1.now ≡ drop w xs = ap extents_of c.split_at.ensures.back ∙ sym (drop-map _ w c.cuts.rest.now) in
    record {
      rows = ap (λ (list : RowList). list.rows ++ map f others) c.in_ok-push_values.ensures.rows
          ∙ (ap (λ (lists : Lists). (c.cuts.into.rows ++ value lists (extents_of c.split_at.result.0.now) ∷ []) ++ map f others) c.cuts.invariant.same
          ∙ (ap₂ (λ (a b : List (Option Extent)). (c.cuts.into.rows ++ f a ∷ []) ++ map f (cut_rows (c.cuts.left - 1) w b)) front back
          ∙ (cut-step f c.cuts.into.rows (c.cuts.left - 1) w xs
          ∙ (ap (λ (k : ℕ). c.cuts.into.rows ++ map f (cut_rows k w xs)) (sym n)
          ∙ c.cuts.invariant.rows))));
      width = ap (λ (list : RowList). list.width) c.in_ok-push_values.ensures.rows ∙ c.cuts.invariant.width;
      whole = ap length c.split_at.ensures.back ∙ (length-drop w c.cuts.rest.now ∙ one_less c.cuts.left w (length c.cuts.rest.now) c.cuts-test.true c.cuts.invariant.whole);
      found = subst (All (IsFoundIn doc)) (sym c.split_at.ensures.back) (All-drop (IsFoundIn doc) w c.cuts.rest.now c.cuts.invariant.found);
      lies = λ old. c.in_ok-push_values.ensures.lies (c.cuts.invariant.lies old);
      same = c.in_ok-push_values.ensures.same ∙ c.cuts.invariant.same;
    }
