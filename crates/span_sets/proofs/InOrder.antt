-- Rows that are in row order stand so with their targets.
use Rattle.std.proofs.Common.{◌≡◌, ℕ, ◌+◌, false, cond, List, [], ◌∷◌, length, map, get_or, refl, sym, ap, subst, ◌∙◌, arith, All, Option}
use Rattle.std.specs.Cmp.{IsTotalOrder}
use Rattle.std.specs.List.{zip}
use Rattle.std.specs.List.Sorted.{IsSorted}
use Rattle.std.specs.Ordering.{is_lt}
use Rattle.std.specs.declared.cmp.Ordering.{Ordering}
use Rattle.std.proofs.lemmas.Cmp.{on_total}
use Rattle.std.proofs.lemmas.List.{length-map}
use Rattle.std.proofs.lemmas.List.Sorted.{All-permutation, IsPermutation-sym, length_permutation}
use Rattle.std.proofs.lemmas.Slice.Zip.{firsts-zip, seconds-zip}
use Rattle.std.proofs.Math.ListN.{get_or-map}
use Rattle.aql_base.specs.Sorting.{put_in_order, sorted_by}
use Rattle.aql_base.specs.SortingLaws.{IsSorted-tail, IsSorted-head}
use Rattle.row_values.specs.Datums.{Datum}
use Rattle.row_values.specs.RowOrder.{row_cmp_total}
use Rattle.row_values.specs.Rows.{RowList, row_cmp, IsInOrder, sorted}
use Rattle.row_values.specs.SortedRows.{IsInOrder-sorted, SameBag-sorted}
use Rattle.span_token.specs.Extents.{Extent}
use Rattle.span_sets.specs.Consolidation.{IsKept, in_row_order, rows_in_order, targets_in_order, IsConsolidated}
use Rattle.span_sets.specs.KeptRows.{consolidated_by, consolidated}
use Rattle.span_sets.specs.declared.policy.Policy.{Policy}
use Rattle.span_sets.specs.LawProofs.ConsolidationLaws.{IsConsolidated-only, consolidated-SameBag}

module _ {X : Type 0} {cmp : X → X → Ordering} (order : IsTotalOrder cmp) where
  put_in_front : (x : X) (xs : List X) → All (λ y. is_lt (cmp y x) ≡ false) xs → put_in_order cmp x xs ≡ x ∷ xs
  unfolding put_in_order
  put_in_front x [] h = refl
  put_in_front x (y ∷ ys) h = ap (λ b. cond b (y ∷ put_in_order cmp x ys) (x ∷ y ∷ ys)) (h 0 y (omega arith))

  -- what is in order stays as it is, also where values tie
  stays_in_order : (xs : List X) → IsSorted cmp xs → sorted_by cmp xs ≡ xs
  unfolding sorted_by
  stays_in_order [] h = refl
  stays_in_order (x ∷ xs) h = ap (put_in_order cmp x) (stays_in_order xs (IsSorted-tail order x xs h)) ∙ put_in_front x xs (IsSorted-head order x xs h)

abbrev WithTarget : Type 0
WithTarget = List Datum × Option Extent

by_row : IsTotalOrder (λ (p q : WithTarget). row_cmp p.0 q.0)
by_row = on_total (λ (p : WithTarget). p.0) row_cmp_total

pairs_in_order : (ps : List WithTarget) → IsInOrder (map (λ (p : WithTarget). p.0) ps) → IsSorted (λ (p q : WithTarget). row_cmp p.0 q.0) ps
pairs_in_order ps h = λ k d low high.
    let f : WithTarget → List Datum = λ p. p.0 in
    (λ i. is_lt (row_cmp (sym (get_or-map f ps (k + 1) d) i) (sym (get_or-map f ps k d) i))) ∙ h k d.0 low (omega (arith, high, length-map ps f))

module _ (rows : List (List Datum)) (targets : List (Option Extent)) (up : IsInOrder rows) (each : length targets ≡ length rows) where
  as_they_are : in_row_order rows targets ≡ zip rows targets
  unfolding in_row_order
  as_they_are = stays_in_order by_row (zip rows targets) (pairs_in_order (zip rows targets) (subst IsInOrder (sym (firsts-zip rows targets each)) up))

  pub rows_as_they_are : rows_in_order rows targets ≡ rows
  rows_as_they_are = ap (λ (ps : List WithTarget). map (λ (p : WithTarget). p.0) ps) as_they_are ∙ firsts-zip rows targets each

  pub targets_as_they_are : targets_in_order rows targets ≡ targets
  targets_as_they_are = ap (λ (ps : List WithTarget). map (λ (p : WithTarget). p.1) ps) as_they_are ∙ seconds-zip rows targets each

pub sorted_long : (rows : List (List Datum)) → length (sorted rows) ≡ length rows
sorted_long rows = length_permutation rows (sorted rows) (SameBag-sorted rows)

pub sorted_all : (P : List Datum → Type 0) (rows : List (List Datum)) → All P rows → All P (sorted rows)
sorted_all P rows all = All-permutation P rows (sorted rows) (SameBag-sorted rows) all

-- the rows that stay, of rows in row order
pub IsConsolidated-picked : (policy : Policy) (width : ℕ) (rows : List (List Datum)) (targets : List (Option Extent)) (kept : List ℕ) (out : RowList) → length targets ≡ length rows → IsKept policy targets kept
    → out ≡ record { width = width; rows = map (λ i. get_or (sorted rows) i []) kept } → IsConsolidated policy (record { width = width; rows = sorted rows }) targets out
IsConsolidated-picked policy width rows targets kept out each stay is =
    let long : length targets ≡ length (sorted rows) = each ∙ sym (sorted_long rows) in
    record {
      kept = kept;
      stay = subst (λ (ts : List (Option Extent)). IsKept policy ts kept) (sym (targets_as_they_are (sorted rows) targets (IsInOrder-sorted rows) long)) stay;
      rows_are = ap (λ (o : RowList). o.rows) is ∙ ap (λ (rs : List (List Datum)). map (λ i. get_or rs i []) kept) (sym (rows_as_they_are (sorted rows) targets (IsInOrder-sorted rows) long));
      width_is = ap (λ (o : RowList). o.width) is;
    }

-- and where targets are told by the rows, they are those of the function
pub consolidated-sorted : (policy : Policy) (width : ℕ) (rows : List (List Datum)) (targets : List (Option Extent)) (target : List Datum → Option Extent) (out : RowList)
    → IsConsolidated policy (record { width = width; rows = sorted rows }) targets out → targets ≡ map target (sorted rows) → out.rows ≡ consolidated policy target rows
consolidated-sorted policy width rows targets target out h is =
    IsConsolidated-only policy (record { width = width; rows = sorted rows }) targets out h
    ∙ ap (λ (ts : List (Option Extent)). consolidated_by policy (sorted rows) ts) is
    ∙ consolidated-SameBag policy target (sorted rows) rows (IsPermutation-sym rows (sorted rows) (SameBag-sorted rows))
