use Rattle.std.proofs.Common.{◌≡◌, ℕ, List, [], Bool, false, map, get_or, refl, sym, ap, ◌∙◌, arith}
use Rattle.std.proofs.lemmas.List.{get_or-map}
use Rattle.row_values.specs.Datums.{Datum}
use Rattle.row_values.specs.Rows.{RowList}
use Rattle.span_sets.proofs.PickedRows.{grown}
use Rattle.span_sets.proofs.lent.copies.Goals as goal

pub loop-i-preserved : goal.loop-i-preserved
loop-i-preserved c =
    let f : ℕ → List Datum = λ k. get_or (map (λ row. row.now) c.args.rows.now) k [] in
    let p : ℕ → Bool = λ k. get_or c.args.marks.now k false in
    let n : ℕ = c.loop-i.i in
    let row : c.index-rows-i.result.now ≡ f n = ap (λ row. row.now) c.index-rows-i.is ∙ sym (get_or-map (λ row. row.now) c.args.rows.now n c.index-rows-i.result [] (omega arith)) in
    let rows = grown f p n c.loop-i.out.rows c.index-rows-i.result.now (p n) (ap (λ (out : RowList). out.rows) c.loop-i.invariant) refl row in
    c.in_ok-push_copy.ensures ∙ (λ i. record { width = (c.loop-i.invariant i).width; rows = rows i })
