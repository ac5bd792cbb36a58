-- Laws of products and differences, and of what lies in a document: equal bags in, equal bags out.
use Rattle.std.proofs.Common.{◌≡◌, ℕ, zero, suc, ◌+◌, ◌<◌, Bool, true, false, not, nat_lt, List, [], ◌∷◌, ◌++◌, map, length, get_or, count_by, flat_map, filter, refl, sym, ap, ap₂, subst, ◌∙◌, arith, All, Contains, true≢false, IsTrue, ◌↔◌}
use Rattle.std.specs.Ordering.{is_eq, eq_by_cmp}
use Rattle.std.proofs.lemmas.Bool.{ltb-true, lt-ltb}
use Rattle.std.proofs.lemmas.Grind.{flat_map-append}
use Rattle.std.proofs.lemmas.List.{append-nil, get_or_append_left, get_or-append-add, length-append}
use Rattle.std.proofs.lemmas.List.Elements.{All-append, All-filter, All-map, All-nil, All-head, All-tail, All-weaker}
use Rattle.std.proofs.lemmas.List.Sorted.{All-permutation}
use Rattle.aql_base.specs.Bags.{SameBag, count_of}
use Rattle.aql_base.specs.BagLaws.{SameBag-trans, SameBag-is, SameBag-map, SameBag-filter, SameBag-flat_map, SameBag-flat_map_each}
use Rattle.aql_base.specs.CountLaws.{count_by-SameBag, some_passes, told}
use Rattle.aql_base.specs.DistinctLists.{some_counted}
use Rattle.span_token.specs.Documents.{Doc}
use Rattle.row_values.specs.Datums.{Datum, null, span_of, IsOfDocument}
use Rattle.row_values.specs.Rows.{row_cmp, value_in, span_in, RowsLieIn, ColumnLiesIn, product, does_occur, minus}
use Rattle.row_values.specs.RowOrder.{row_cmp_total, row_cmp_exact, row_cmp_itself}

-- a column of two rows, one behind the other, is a column of the first or of the second
pub value_in-left : (l r : List Datum) (column : ℕ) → column < length l → value_in (l ++ r) column ≡ value_in l column
value_in-left l r column below = get_or_append_left l r null column below

pub value_in-right : (l r : List Datum) (column : ℕ) → value_in (l ++ r) (length l + column) ≡ value_in r column
value_in-right l r column = get_or-append-add l r column null

pub span_in-left : (l r : List Datum) (column : ℕ) → column < length l → span_in column (l ++ r) ≡ span_in column l
span_in-left l r column below = ap span_of (value_in-left l r column below)

pub span_in-right : (l r : List Datum) (column : ℕ) → span_in (length l + column) (l ++ r) ≡ span_in column r
span_in-right l r column = ap span_of (value_in-right l r column)

-- what lies in the document: of each column, and of each bag
pub RowsLieIn-column : (document : Doc) (column : ℕ) (rows : List (List Datum)) → RowsLieIn document rows → ColumnLiesIn document column rows
RowsLieIn-column document column rows = All-weaker (All (IsOfDocument document)) (λ row. IsOfDocument document (value_in row column)) (λ row. one column row) rows
  where
    one : (column : ℕ) (row : List Datum) → All (IsOfDocument document) row → IsOfDocument document (value_in row column)
    one column [] h = tt
    one zero (x ∷ row) h = All-head (IsOfDocument document) x row h
    one (suc column) (x ∷ row) h = one column row (All-tail (IsOfDocument document) x row h)

pub RowsLieIn-SameBag : (document : Doc) (rows rows' : List (List Datum)) → SameBag rows rows' → RowsLieIn document rows → RowsLieIn document rows'
RowsLieIn-SameBag document rows rows' bag = All-permutation (All (IsOfDocument document)) rows rows' bag

pub ColumnLiesIn-SameBag : (document : Doc) (column : ℕ) (rows rows' : List (List Datum)) → SameBag rows rows' → ColumnLiesIn document column rows → ColumnLiesIn document column rows'
ColumnLiesIn-SameBag document column rows rows' bag = All-permutation (λ row. IsOfDocument document (value_in row column)) rows rows' bag

-- products, one left row after another
pub product-nil : (right : List (List Datum)) → product [] right ≡ []
unfolding product
product-nil right = refl

pub product-cons : (l : List Datum) (left right : List (List Datum)) → product (l ∷ left) right ≡ map (λ r. l ++ r) right ++ product left right
unfolding product
product-cons l left right = refl

pub product-push : (left : List (List Datum)) (l : List Datum) (right : List (List Datum)) → product (left ++ l ∷ []) right ≡ product left right ++ map (λ r. l ++ r) right
unfolding product
product-push left l right =
    flat_map-append (λ (l : List Datum). map (λ r. l ++ r) right) left (l ∷ [])
    ∙ ap (λ (rows : List (List Datum)). flat_map (λ (l : List Datum). map (λ r. l ++ r) right) left ++ rows) (append-nil (map (λ r. l ++ r) right))

pub SameBag-product : (left left' right right' : List (List Datum)) → SameBag left left' → SameBag right right' → SameBag (product left right) (product left' right')
unfolding product
SameBag-product left left' right right' h k =
    SameBag-trans _ _ _ (SameBag-flat_map (λ (l : List Datum). map (λ r. l ++ r) right) left left' h)
    (SameBag-flat_map_each (λ (l : List Datum). map (λ r. l ++ r) right) (λ (l : List Datum). map (λ r. l ++ r) right') (λ l. SameBag-map (λ r. l ++ r) right right' k) left')

-- what holds of each left and each right row gives what holds of each row of the product
pub All-product : (P Q R : List Datum → Type 0) → ((l r : List Datum) → P l → Q r → R (l ++ r)) → (left right : List (List Datum)) → All P left → All Q right → All R (product left right)
unfolding product
All-product P Q R both [] right h k = All-nil R
All-product P Q R both (l ∷ left) right h k =
    All-append R (map (λ r. l ++ r) right) (product left right)
    (All-map R (λ r. l ++ r) right (All-weaker Q (λ r. R (l ++ r)) (λ r q. both l r (All-head P l left h) q) right k))
    (All-product P Q R both left right (All-tail P l left h) k)

pub width-product : (m n : ℕ) (left right : List (List Datum)) → All (λ row. length row ≡ m) left → All (λ row. length row ≡ n) right → All (λ row. length row ≡ m + n) (product left right)
width-product m n left right h k =
    All-product (λ row. length row ≡ m) (λ row. length row ≡ n) (λ row. length row ≡ m + n) (λ l r p q. omega (arith, length-append l r, p, q)) left right h k

pub RowsLieIn-product : (document : Doc) (left right : List (List Datum)) → RowsLieIn document left → RowsLieIn document right → RowsLieIn document (product left right)
RowsLieIn-product document left right h k =
    All-product (All (IsOfDocument document)) (All (IsOfDocument document)) (All (IsOfDocument document)) (λ l r p q. All-append (IsOfDocument document) l r p q) left right h k

-- a row is among rows where it is counted once or more
pub does_occur-is : (rows : List (List Datum)) (row : List Datum) → IsTrue (does_occur rows row) ↔ Contains rows row
does_occur-is rows row = (λ e. there (some_passes (λ other. eq_by_cmp row_cmp row other) rows (ltb-true 0 (count_of row_cmp row rows) e)), counted rows)
  where
    there : (k : ℕ) × (k < length rows) × ((d : List Datum) → eq_by_cmp row_cmp row (get_or rows k d) ≡ true) → Contains rows row
    there at = (at.0, at.1, sym (told row_cmp_total row_cmp_exact row (get_or rows at.0 row) (at.2 row)))

    counted : (rows : List (List Datum)) → Contains rows row → does_occur rows row ≡ true
    counted rows at = lt-ltb 0 (count_of row_cmp row rows)
        (some_counted (eq_by_cmp row_cmp row) rows at.0 row at.1 (ap (eq_by_cmp row_cmp row) at.2 ∙ ap is_eq (row_cmp_itself row)))

pub SameBag-minus : (left left' right right' : List (List Datum)) → SameBag left left' → SameBag right right' → SameBag (minus left right) (minus left' right')
unfolding minus
SameBag-minus left left' right right' h k =
    SameBag-trans _ _ _ (SameBag-filter (λ row. not (does_occur right row)) left left' h)
    (SameBag-is _ _ (λ i. filter (λ row. not (nat_lt 0 (count_by-SameBag (eq_by_cmp row_cmp row) right right' k i))) left'))

-- what holds of each left row holds of each that stays
pub All-minus : (P : List Datum → Type 0) (left right : List (List Datum)) → All P left → All P (minus left right)
unfolding minus
All-minus P left right = All-filter (λ row. not (does_occur right row)) P left
