use Rattle.std.proofs.Common.{◌≡◌, ℕ, List, [], length, map, get_or, sym, ap, subst, ◌∙◌, All}
use Rattle.std.proofs.lemmas.List.{length-map}
use Rattle.row_values.specs.Datums.{Datum}
use Rattle.row_values.specs.Rows.{RowList}
use Rattle.span_sets.specs.Candidates.{marked_numbers}
use Rattle.span_sets.specs.Consolidation.{target_of}
use Rattle.span_sets.proofs.InOrder.{sorted_long, sorted_all, IsConsolidated-picked, consolidated-sorted}
use Rattle.span_sets.proofs.RowOrders.{All-shown}
use Rattle.span_sets.proofs.lent.consolidated.Goals as goal

pub copies-requires-clause-one_each : goal.copies-requires-clause-one_each
copies-requires-clause-one_each c =
    let long : length c.args.order.now ≡ length c.args.rows.now.rows = sym (length-map c.args.order.now (λ row. row.now)) ∙ ap (λ (rs : List (List Datum)). length rs) c.requires.order ∙ sorted_long c.args.rows.now.rows in
    ap (λ bs. length bs) c.as_slice.ensures.value ∙ c.in_ok-marks.ensures.number ∙ c.requires.one_target_each ∙ sym long

pub copies-requires-clause-width : goal.copies-requires-clause-width
copies-requires-clause-width c =
    let Wide : List Datum → Type 0 = λ row. length row ≡ c.width-width.result in
    let wide : All Wide c.args.rows.now.rows = subst (λ (w : ℕ). All (λ (row : List Datum). length row ≡ w) c.args.rows.now.rows) (sym c.width-width.ensures.width) c.width-width.ensures.each_row in
    All-shown Wide (λ row. row.now) c.args.order.now (subst (λ (rs : List (List Datum)). All Wide rs) (sym c.requires.order) (sorted_all Wide c.args.rows.now.rows wide))

pub returns-clause-kept : goal.returns-clause-kept
returns-clause-kept c =
    let rows : RowList = c.args.rows.now in
    IsConsolidated-picked c.args.policy rows.width rows.rows (map target_of c.args.targets.now) (marked_numbers c.in_ok-marks.marks.items) c.in_ok-out.out
    (length-map c.args.targets.now target_of ∙ c.requires.one_target_each) c.in_ok-marks.ensures.kept
    (c.in_ok-out.ensures ∙ (λ i. record { width = c.width-width.ensures.width i; rows = map (λ k. get_or (c.requires.order i) k []) (marked_numbers (c.as_slice.ensures.value i)) }))

pub returns-clause-list : goal.returns-clause-list
returns-clause-list c = λ target is. consolidated-sorted c.args.policy c.args.rows.now.width c.args.rows.now.rows (map target_of c.args.targets.now) target c.in_ok-out.out (returns-clause-kept c) is
