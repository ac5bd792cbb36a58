-- Rows in row order, as a sort gives them.
use Rattle.std.proofs.Common.{map, subst, ◌≡◌, List}
use Rattle.std.specs.List.Sorted.{IsPermutation, IsSorted}
use Rattle.std.proofs.lemmas.List.Sorted.{IsPermutation-map}
use Rattle.aql_base.specs.SortingLaws.{IsSorted-map}
use Rattle.row_values.specs.Datums.{Datum}
use Rattle.row_values.specs.Rows.{row_cmp, sorted}
use Rattle.row_values.specs.SortedRows as laws
pub use Rattle.row_values.specs.SortedRows.{IsInOrder-sorted, SameBag-sorted, sorted-unique, sorted-in_order, sorted-SameBag, SameBag-from_sorted}

-- a sort of what shows the rows sorts the rows
pub sorted-from_shown : {R : Type 0} (shown : R → List Datum) (rows : List (List Datum)) (before after : List R) → map shown before ≡ rows → IsPermutation before after → IsSorted (λ a b. row_cmp (shown a) (shown b)) after → map shown after ≡ sorted rows
sorted-from_shown shown rows before after is moved up =
    laws.sorted-unique rows (map shown after) (IsSorted-map row_cmp shown after up) (subst (λ xs. IsPermutation xs (map shown after)) is (IsPermutation-map shown before after moved))
