use Rattle.std.proofs.Common.{◌≡◌, ℕ, suc, ◌<◌, List, [], ◌∷◌, Bool, Option, None, map, length, get_or, refl, sym, ap, ap₂, subst, ◌∙◌, arith, All}
use Rattle.std.proofs.lemmas.List.{length-map}
use Rattle.row_values.specs.Datums.{Datum}
use Rattle.row_values.specs.Rows.{RowList, IsInOrder}
use Rattle.row_values.specs.SortedRows.{IsInOrder-sorted}
use Rattle.std.proofs.lemmas.List.Elements.{Contains-get_or}
use Rattle.span_sets.specs.declared.policy.Policy.{Policy}
use Rattle.span_sets.specs.declared.numbered.NumberedRow.{NumberedRow}
use Rattle.span_token.specs.Extents.{Extent}
use Rattle.span_token.specs.declared.span.Span.{Span}
use Rattle.span_sets.specs.Consolidation.{target_of, in_row_order, rows_in_order, targets_in_order, IsKept, IsConsolidated}
use Rattle.span_sets.specs.Candidates.{marked_numbers}
use Rattle.span_sets.specs.Orders.{row_order_of}
use Rattle.span_sets.specs.KeptRows.{consolidated_by}
use Rattle.span_sets.specs.LawProofs.ConsolidationLaws.{IsConsolidated-only, IsConsolidated-among, consolidated-SameBag}
use Rattle.span_sets.proofs.RowOrders.{rows_in_order-sorted, IsInOrder-picked, All-row_order_of, All-shown, targets_in_order-shown, rows_in_order-shown, length-order}
use Rattle.span_sets.proofs.consolidation.consolidate.Goals as goal

abbrev shown : NumberedRow → List Datum × ℕ
shown p = (p.row, p.number)

-- what holds of each row holds of the rows in row order
each_numbered : (P : List Datum → Type 0) (rows : List (List Datum)) (order : List NumberedRow) → map shown order ≡ row_order_of rows → All P rows → All (λ p. P p.row) order
each_numbered P rows order is all =
    All-shown (λ q. P q.0) shown order
    (subst (λ (qs : List (List Datum × ℕ)). All (λ q. P q.0) qs) (sym is) (λ k d h. (All-row_order_of P rows all k d h).0))

in_range : (rows : List (List Datum)) (targets : List (Option Span)) (order : List NumberedRow) → map shown order ≡ row_order_of rows → length targets ≡ length rows → length order ≡ length rows
in_range rows targets order is each = length-order shown rows (map target_of targets) order is (length-map targets target_of ∙ each)

pub stays-requires : goal.stays-requires
stays-requires c =
    let is : map shown c.in_ok-order.order.items ≡ row_order_of c.args.rows.rows = c.in_ok-order.ensures.order ∙ ap row_order_of c.into_vec.ensures.rows in
    omega (
      arith,
      ap (λ (ts : List (Option Span)). length ts) c.as_slice-3.ensures.value,
      ap (λ (ts : List (Option Span)). length ts) c.in_ok-targets.ensures,
      length-map c.as_slice-2.result.now (λ (p : NumberedRow). p.target),
      ap (λ (ps : List NumberedRow). length ps) c.as_slice-2.ensures.value,
      in_range c.args.rows.rows c.args.targets.items c.in_ok-order.order.items is (sym c.args.targets.ok.0 ∙ c.requires.one_target_each),
      c.into_vec.ensures.few,
      c.into_vec.result.ok.0,
      ap (λ (rs : List (List Datum)). length rs) c.into_vec.ensures.rows,
    )

pub marked-requires-clause-few : goal.marked-requires-clause-few
marked-requires-clause-few c =
    let is : map shown c.in_ok-order.order.items ≡ row_order_of c.args.rows.rows = c.in_ok-order.ensures.order ∙ ap row_order_of c.into_vec.ensures.rows in
    omega (
      arith,
      c.in_ok-order.order.ok.0,
      in_range c.args.rows.rows c.args.targets.items c.in_ok-order.order.items is (sym c.args.targets.ok.0 ∙ c.requires.one_target_each),
      c.into_vec.ensures.few,
      c.into_vec.result.ok.0,
      ap (λ (rs : List (List Datum)). length rs) c.into_vec.ensures.rows,
    )

pub marked-requires-clause-width : goal.marked-requires-clause-width
marked-requires-clause-width c = rw (c.width-width.ensures.width)
    (each_numbered (λ r. length r ≡ c.args.rows.width) c.args.rows.rows c.in_ok-order.order.items (c.in_ok-order.ensures.order ∙ ap row_order_of c.into_vec.ensures.rows) c.width-width.ensures.each_row)

same_list : (a b : RowList) → a.width ≡ b.width → a.rows ≡ b.rows → a ≡ b
same_list a b w r = λ i. record { width = w i; rows = r i }

all_fetched : (targets : List (Option Extent)) (order : List NumberedRow) → All (λ p. target_of p.target ≡ get_or targets p.number None) order → map target_of (map (λ (p : NumberedRow). p.target) order) ≡ map (λ (p : NumberedRow). get_or targets p.number None) order
all_fetched targets [] all = refl
all_fetched targets (p ∷ ps) all = ap₂ (λ (t : Option Extent) (ts : List (Option Extent)). t ∷ ts) (all 0 p (omega arith)) (all_fetched targets ps (λ k d h. all (suc k) d (omega (arith, h))))

-- the targets that `stays` looks at are those of the rows in row order
seen_targets : (rows : List (List Datum)) (targets : List (Option Span)) (order seen : List NumberedRow) (given fetched passed : List (Option Span))
    → map shown order ≡ row_order_of rows → length targets ≡ length rows → seen ≡ order → given ≡ targets → All (λ p. target_of p.target ≡ get_or (map target_of given) p.number None) order
    → fetched ≡ map (λ p. p.target) seen → passed ≡ fetched → map target_of passed ≡ targets_in_order rows (map target_of targets)
seen_targets rows targets order seen given fetched passed is each saw gave found got pass =
    ap (λ (ts : List (Option Span)). map target_of ts) (pass ∙ got ∙ ap (λ (ps : List NumberedRow). map (λ (p : NumberedRow). p.target) ps) saw)
    ∙ all_fetched (map target_of targets) order (subst (λ (ts : List (Option Span)). All (λ (p : NumberedRow). target_of p.target ≡ get_or (map target_of ts) p.number None) order) gave found)
    ∙ targets_in_order-shown shown rows (map target_of targets) order is (length-map targets target_of ∙ each)

-- the rows that `marked` gives are those with the marked numbers
picked : (rows : List (List Datum)) (targets : List (Option Span)) (order : List NumberedRow) (marks looked : List Bool)
    → map shown order ≡ row_order_of rows → length targets ≡ length rows → looked ≡ marks
    → map (λ i. get_or (map (λ (p : NumberedRow). p.row) order) i []) (marked_numbers looked) ≡ map (λ i. get_or (rows_in_order rows (map target_of targets)) i []) (marked_numbers marks)
picked rows targets order marks looked is each look =
    ap (λ (bs : List Bool). map (λ i. get_or (map (λ (p : NumberedRow). p.row) order) i []) (marked_numbers bs)) look
    ∙ ap (λ (rs : List (List Datum)). map (λ i. get_or rs i []) (marked_numbers marks)) (rows_in_order-shown shown rows (map target_of targets) order is (length-map targets target_of ∙ each))

pub returns-clause-kept : goal.returns-clause-kept
returns-clause-kept c =
    let rows : List (List Datum) = c.args.rows.rows in
    let targets : List (Option Span) = c.args.targets.items in
    let order : List NumberedRow = c.in_ok-order.order.items in
    let marks : List Bool = c.in_ok-marks.marks.items in
    let is : map shown order ≡ row_order_of rows = c.in_ok-order.ensures.order ∙ ap row_order_of c.into_vec.ensures.rows in
    let each : length targets ≡ length rows = sym c.args.targets.ok.0 ∙ c.requires.one_target_each in
    let own = seen_targets rows targets order c.as_slice-2.result.now c.as_slice.result.now c.in_ok-targets.targets.items c.as_slice-3.result.now is each c.as_slice-2.ensures.value c.as_slice.ensures.value c.in_ok-order.ensures.targets c.in_ok-targets.ensures c.as_slice-3.ensures.value in
    record {
      kept = marked_numbers marks;
      stay = subst (λ (ts : List (Option Extent)). IsKept c.args.policy ts (marked_numbers marks)) own c.in_ok-marks.ensures.kept;
      rows_are = ap (λ (out : RowList). out.rows) c.in_ok-out.ensures ∙ picked rows targets order marks c.as_slice-4.result.now is each c.as_slice-4.ensures.value;
      width_is = ap (λ (out : RowList). out.width) c.in_ok-out.ensures ∙ c.width-width.ensures.width;
    }

pub returns-clause-only : goal.returns-clause-only
unfolding returns-clause-kept
returns-clause-only c = λ other same.
    let rows : List (List Datum) = c.args.rows.rows in
    let targets : List (Option Span) = c.args.targets.items in
    let order : List NumberedRow = c.in_ok-order.order.items in
    let is : map shown order ≡ row_order_of rows = c.in_ok-order.ensures.order ∙ ap row_order_of c.into_vec.ensures.rows in
    let each : length targets ≡ length rows = sym c.args.targets.ok.0 ∙ c.requires.one_target_each in
    let own = seen_targets rows targets order c.as_slice-2.result.now c.as_slice.result.now c.in_ok-targets.targets.items c.as_slice-3.result.now is each c.as_slice-2.ensures.value c.as_slice.ensures.value c.in_ok-order.ensures.targets c.in_ok-targets.ensures c.as_slice-3.ensures.value in
    let mine : IsConsolidated c.args.policy c.args.rows (map target_of targets) c.in_ok-out.out = returns-clause-kept c in
    let kept : same.kept ≡ marked_numbers c.in_ok-marks.marks.items = c.in_ok-marks.ensures.only same.kept (subst (λ (ts : List (Option Extent)). IsKept c.args.policy ts same.kept) (sym own) same.stay) in
    same_list other c.in_ok-out.out (same.width_is ∙ sym mine.width_is)
    (same.rows_are ∙ ap (λ (ks : List ℕ). map (λ i. get_or (rows_in_order rows (map target_of targets)) i []) ks) kept ∙ sym mine.rows_are)

pub returns-clause-one_set : goal.returns-clause-one_set
returns-clause-one_set c = λ a b is_a is_b.
    let rows : List (List Datum) = c.args.rows.rows in
    let targets : List (Option Span) = c.args.targets.items in
    let order : List NumberedRow = c.in_ok-order.order.items in
    let is : map shown order ≡ row_order_of rows = c.in_ok-order.ensures.order ∙ ap row_order_of c.into_vec.ensures.rows in
    let each : length targets ≡ length rows = sym c.args.targets.ok.0 ∙ c.requires.one_target_each in
    let own = seen_targets rows targets order c.as_slice-2.result.now c.as_slice.result.now c.in_ok-targets.targets.items c.as_slice-3.result.now is each c.as_slice-2.ensures.value c.as_slice.ensures.value c.in_ok-order.ensures.targets c.in_ok-targets.ensures c.as_slice-3.ensures.value in
    c.in_ok-marks.ensures.only a (subst (λ (ts : List (Option Extent)). IsKept c.args.policy ts a) (sym own) is_a)
    ∙ sym (c.in_ok-marks.ensures.only b (subst (λ (ts : List (Option Extent)). IsKept c.args.policy ts b) (sym own) is_b))

-- the numbers that stay are numbers of rows
there : (policy : Policy) (rows : List (List Datum)) (targets : List (Option Extent)) (kept : List ℕ) → IsKept policy (targets_in_order rows targets) kept → All (λ i. i < length (rows_in_order rows targets)) kept
there policy rows targets kept is = λ k d h.
    let stays = (is.exactly (get_or kept k d)).0 (Contains-get_or kept k d h) in
    omega (arith, stays.there, length-map (in_row_order rows targets) (λ (p : List Datum × Option Extent). p.0), length-map (in_row_order rows targets) (λ (p : List Datum × Option Extent). p.1))

pub returns-clause-in_order : goal.returns-clause-in_order
returns-clause-in_order c =
    let rows : List (List Datum) = c.args.rows.rows in
    let targets : List (Option Extent) = map target_of c.args.targets.items in
    let each : length targets ≡ length rows = length-map c.args.targets.items target_of ∙ sym c.args.targets.ok.0 ∙ c.requires.one_target_each in
    let mine : IsConsolidated c.args.policy c.args.rows targets c.in_ok-out.out = returns-clause-kept c in
    let up : IsInOrder (rows_in_order rows targets) = subst (λ (rs : List (List Datum)). IsInOrder rs) (sym (rows_in_order-sorted rows targets each)) (IsInOrder-sorted rows) in
    subst (λ (rs : List (List Datum)). IsInOrder rs) (sym mine.rows_are) (IsInOrder-picked (rows_in_order rows targets) mine.kept up mine.stay.rising (there c.args.policy rows targets mine.kept mine.stay))

pub returns-clause-list : goal.returns-clause-list
returns-clause-list c = λ target is.
    let rows : RowList = c.args.rows in
    IsConsolidated-only c.args.policy rows (map target_of c.args.targets.items) c.in_ok-out.out (returns-clause-kept c)
    ∙ ap (λ (ts : List (Option Extent)). consolidated_by c.args.policy rows.rows ts) is

pub returns-clause-any_order : goal.returns-clause-any_order
returns-clause-any_order c = λ target same other is bag h.
    let rows : RowList = c.args.rows in
    IsConsolidated-only c.args.policy same (map target same.rows) other h ∙ consolidated-SameBag c.args.policy target same.rows rows.rows bag ∙ sym (returns-clause-list c target is)

pub returns-clause-among : goal.returns-clause-among
returns-clause-among c =
    let each : length (map target_of c.args.targets.items) ≡ length c.args.rows.rows = length-map c.args.targets.items target_of ∙ sym c.args.targets.ok.0 ∙ c.requires.one_target_each in
    IsConsolidated-among c.args.policy c.args.rows (map target_of c.args.targets.items) c.in_ok-out.out each (returns-clause-kept c)
