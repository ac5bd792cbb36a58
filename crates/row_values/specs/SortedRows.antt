-- The rows in row order: the one list that is in order and the same bag.
use Rattle.std.specs.Prelude.{◌≡◌, List}
use Rattle.aql_base.specs.Bags.{SameBag}
use Rattle.aql_base.specs.BagLaws.{SameBag-sym, SameBag-trans, SameBag-is}
use Rattle.aql_base.specs.SortingLaws.{SameBag-sorted_by, IsSorted-sorted_by, sorted_by-unique, sorted_by-SameBag, sorted_by-in_order}
use Rattle.row_values.specs.Datums.{Datum}
use Rattle.row_values.specs.Rows.{IsInOrder, sorted}
use Rattle.row_values.specs.RowOrder.{row_cmp_total, row_cmp_exact}

pub IsInOrder-sorted : (rows : List (List Datum)) → IsInOrder (sorted rows)
unfolding sorted
IsInOrder-sorted rows = IsSorted-sorted_by row_cmp_total rows

pub SameBag-sorted : (rows : List (List Datum)) → SameBag rows (sorted rows)
unfolding sorted
SameBag-sorted rows = SameBag-sorted_by row_cmp_total rows

-- a list that is in order and the same bag is the sorted list
pub sorted-unique : (rows out : List (List Datum)) → IsInOrder out → SameBag rows out → out ≡ sorted rows
unfolding sorted
sorted-unique rows out h bag = sorted_by-unique row_cmp_total row_cmp_exact rows out h bag

pub sorted-in_order : (rows : List (List Datum)) → IsInOrder rows → sorted rows ≡ rows
unfolding sorted
sorted-in_order rows h = sorted_by-in_order row_cmp_total row_cmp_exact rows h

-- equal bags, and no others, have one sorted list
pub sorted-SameBag : (xs ys : List (List Datum)) → SameBag xs ys → sorted xs ≡ sorted ys
unfolding sorted
sorted-SameBag xs ys bag = sorted_by-SameBag row_cmp_total row_cmp_exact xs ys bag

pub SameBag-from_sorted : (xs ys : List (List Datum)) → sorted xs ≡ sorted ys → SameBag xs ys
SameBag-from_sorted xs ys e = SameBag-trans xs (sorted ys) ys (SameBag-trans xs (sorted xs) (sorted ys) (SameBag-sorted xs) (SameBag-is (sorted xs) (sorted ys) e)) (SameBag-sym ys (sorted ys) (SameBag-sorted ys))
