-- Consolidation as a function: it is the one answer, its rows are among the given ones, and where targets are told by
-- their rows it goes by the bag of rows alone.
use Rattle.std.proofs.Common.{◌≡◌, ℕ, suc, ◌+◌, ◌<◌, Bool, not, List, [], ◌∷◌, ◌++◌, length, map, filter, get_or, refl, sym, ap, subst, ◌∙◌, arith, All, Option, None}
use Rattle.std.specs.Cmp.{IsTotalOrder}
use Rattle.std.specs.List.{range_with_len, zip}
use Rattle.std.specs.List.Sorted.{IsStable}
use Rattle.std.specs.declared.cmp.Ordering.{Ordering}
use Rattle.std.proofs.lemmas.Cmp.{on_total}
use Rattle.std.proofs.lemmas.List.{length-map, map-append}
use Rattle.std.proofs.lemmas.List.Elements.{All-take}
use Rattle.std.proofs.lemmas.List.Sorted.{IsPermutation-filter_both, All-permutation}
use Rattle.std.proofs.Math.Seq.{take-append_seam}
use Rattle.std.proofs.lemmas.Slice.Zip.{firsts-zip}
use Rattle.aql_base.specs.Bags.{SameBag}
use Rattle.aql_base.specs.BagLaws.{SameBag-sym, SameBag-trans, SameBag-is, SameBag-map}
use Rattle.aql_base.specs.SortingLaws.{SameBag-sorted_by}
use Rattle.row_values.specs.Datums.{Datum}
use Rattle.row_values.specs.RowOrder.{row_cmp_total}
use Rattle.row_values.specs.Rows.{RowList, row_cmp}
use Rattle.span_token.specs.Extents.{Extent}
use Rattle.span_sets.specs.Consolidation.{IsKept, in_row_order, rows_in_order, targets_in_order, IsConsolidated}
use Rattle.span_sets.specs.KeptRows.{does_stay, kept_after, kept_numbers, consolidated_by, consolidated}
use Rattle.span_sets.specs.declared.policy.Policy.{Policy}
use Rattle.span_sets.specs.LawProofs.KeptLists.{IsKept-one, IsKept-kept_numbers}
use Rattle.span_sets.specs.LawProofs.RowLaws.{in_row_order-SameBag}
use Rattle.span_sets.specs.LawProofs.Stable.{IsStable-sorted_by}

pub IsConsolidated-consolidated : (policy : Policy) (rows : RowList) (targets : List (Option Extent)) → IsConsolidated policy rows targets (record { width = rows.width; rows = consolidated_by policy rows.rows targets })
unfolding consolidated_by
IsConsolidated-consolidated policy rows targets = record {
  kept = kept_numbers policy (targets_in_order rows.rows targets);
  stay = IsKept-kept_numbers policy (targets_in_order rows.rows targets);
  rows_are = refl;
  width_is = refl;
}

pub IsConsolidated-only : (policy : Policy) (rows : RowList) (targets : List (Option Extent)) (out : RowList) → IsConsolidated policy rows targets out → out.rows ≡ consolidated_by policy rows.rows targets
unfolding consolidated_by
IsConsolidated-only policy rows targets out h =
    let ts = targets_in_order rows.rows targets in
    h.rows_are ∙ ap (λ (numbers : List ℕ). map (λ i. get_or (rows_in_order rows.rows targets) i []) numbers) (IsKept-one policy ts h.kept (kept_numbers policy ts) h.stay (IsKept-kept_numbers policy ts))

pub consolidated-SameBag : (policy : Policy) (target : List Datum → Option Extent) (rows rows' : List (List Datum)) → SameBag rows rows' → consolidated policy target rows ≡ consolidated policy target rows'
unfolding consolidated_by
consolidated-SameBag policy target rows rows' bag =
    ap (λ (ps : List (List Datum × Option Extent)). map (λ i. get_or (map (λ (p : List Datum × Option Extent). p.0) ps) i []) (kept_numbers policy (map (λ (p : List Datum × Option Extent). p.1) ps))) (in_row_order-SameBag target rows rows' bag)

pub IsConsolidated-SameBag : (policy : Policy) (target : List Datum → Option Extent) (rows rows' out : RowList) → SameBag rows.rows rows'.rows → rows.width ≡ rows'.width → IsConsolidated policy rows (map target rows.rows) out → IsConsolidated policy rows' (map target rows'.rows) out
IsConsolidated-SameBag policy target rows rows' out bag same h =
    let same_order : in_row_order rows.rows (map target rows.rows) ≡ in_row_order rows'.rows (map target rows'.rows) = in_row_order-SameBag target rows.rows rows'.rows bag in
    record {
      kept = h.kept;
      stay = subst (λ (ps : List (List Datum × Option Extent)). IsKept policy (map (λ (p : List Datum × Option Extent). p.1) ps) h.kept) same_order h.stay;
      rows_are = h.rows_are ∙ ap (λ (ps : List (List Datum × Option Extent)). map (λ i. get_or (map (λ (p : List Datum × Option Extent). p.0) ps) i []) h.kept) same_order;
      width_is = h.width_is ∙ same;
    }

abbrev with_target_cmp : List Datum × Option Extent → List Datum × Option Extent → Ordering
with_target_cmp p q = row_cmp p.0 q.0

by_row : IsTotalOrder with_target_cmp
by_row = on_total (λ (p : List Datum × Option Extent). p.0) row_cmp_total

-- the rows in row order are the same bag
rows_in_order-SameBag : (rows : List (List Datum)) (targets : List (Option Extent)) → length targets ≡ length rows → SameBag rows (rows_in_order rows targets)
unfolding in_row_order
rows_in_order-SameBag rows targets each =
    subst (λ (rs : List (List Datum)). SameBag rs (rows_in_order rows targets)) (firsts-zip rows targets each)
    (SameBag-map (λ (p : List Datum × Option Extent). p.0) (zip rows targets) (in_row_order rows targets) (SameBag-sorted_by by_row (zip rows targets)))

-- and rows that are equal keep their order
pub in_row_order-stable : (rows : List (List Datum)) (targets : List (Option Extent)) → IsStable (λ (p q : List Datum × Option Extent). row_cmp p.0 q.0) (zip rows targets) (in_row_order rows targets)
unfolding in_row_order
in_row_order-stable rows targets = IsStable-sorted_by by_row (zip rows targets)

-- all elements of a list, fetched by their numbers
fetched : (xs : List (List Datum)) (a : ℕ) (all : List (List Datum)) → ((k : ℕ) → k < length xs → get_or all (a + k) [] ≡ get_or xs k []) → map (λ i. get_or all i []) (range_with_len a (length xs)) ≡ xs
fetched [] a all h = refl
fetched (x ∷ xs) a all h =
    let here : a + 0 ≡ a = omega arith in
    let first : get_or all a [] ≡ x = subst (λ n. get_or all n [] ≡ x) here (h 0 (omega arith)) in
    let rest : map (λ i. get_or all i []) (range_with_len (a + 1) (length xs)) ≡ xs = fetched xs (a + 1) all (λ k low. let next : a + suc k ≡ (a + 1) + k = omega arith in subst (λ n. get_or all n [] ≡ get_or xs k []) next (h (suc k) (omega (arith, low)))) in
    λ i. first i ∷ rest i

-- the rows that stay, with those that don't, are the given rows
pub consolidated-among : (policy : Policy) (rows : List (List Datum)) (targets : List (Option Extent)) → length targets ≡ length rows → (gone : List (List Datum)) × SameBag (consolidated_by policy rows targets ++ gone) rows
unfolding consolidated_by kept_numbers
consolidated-among policy rows targets each =
    let all : List (List Datum) = rows_in_order rows targets in
    let ts : List (Option Extent) = targets_in_order rows targets in
    let numbers : List ℕ = range_with_len 0 (length ts) in
    let f : ℕ → List Datum = λ i. get_or all i [] in
    let p : ℕ → Bool = λ i. does_stay policy ts (kept_after (length ts) policy ts) i (get_or ts i None) in
    let q : ℕ → Bool = λ i. not (p i) in
    let long : length ts ≡ length all = length-map (in_row_order rows targets) (λ (r : List Datum × Option Extent). r.1) ∙ sym (length-map (in_row_order rows targets) (λ (r : List Datum × Option Extent). r.0)) in
    let parts : SameBag (map f numbers) (map f (filter p numbers ++ filter q numbers)) = SameBag-map f numbers (filter p numbers ++ filter q numbers) (IsPermutation-filter_both p q (λ i. refl) numbers) in
    let whole : map f numbers ≡ all = ap (λ n. map f (range_with_len 0 n)) long ∙ fetched all 0 all (λ k low. let e : 0 + k ≡ k = omega arith in ap (λ n. get_or all n []) e) in
    let given : SameBag (map f numbers) rows = SameBag-trans _ _ _ (SameBag-is _ _ whole) (SameBag-sym rows all (rows_in_order-SameBag rows targets each)) in (
      map f (filter q numbers),
      SameBag-trans _ _ _ (SameBag-is _ _ (sym (map-append f (filter p numbers) (filter q numbers)))) (SameBag-trans _ _ _ (SameBag-sym _ _ parts) given),
    )

pub IsConsolidated-among : (policy : Policy) (rows : RowList) (targets : List (Option Extent)) (out : RowList) → length targets ≡ length rows.rows → IsConsolidated policy rows targets out → (gone : List (List Datum)) × SameBag (out.rows ++ gone) rows.rows
IsConsolidated-among policy rows targets out each h =
    let own = consolidated-among policy rows.rows targets each in
    (own.0, subst (λ (rs : List (List Datum)). SameBag (rs ++ own.0) rows.rows) (sym (IsConsolidated-only policy rows targets out h)) own.1)

-- so what holds of each row holds of each that stays
pub All-consolidated : (P : List Datum → Type 0) (policy : Policy) (target : List Datum → Option Extent) (rows : List (List Datum)) → All P rows → All P (consolidated policy target rows)
All-consolidated P policy target rows all =
    let stay : List (List Datum) = consolidated policy target rows in
    let own = consolidated-among policy rows (map target rows) (length-map rows target) in
    let both : All P (stay ++ own.0) = All-permutation P rows (stay ++ own.0) (SameBag-sym (stay ++ own.0) rows own.1) all in
    subst (λ (rs : List (List Datum)). All P rs) (take-append_seam stay own.0) (All-take P (length stay) (stay ++ own.0) both)
