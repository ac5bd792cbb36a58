-- The rows in row order, with their numbers and with their targets.
use Rattle.std.proofs.Common.{◌≡◌, ℕ, suc, ◌+◌, ◌<◌, ◌≤◌, Bool, true, false, cond, List, [], ◌∷◌, ◌++◌, length, map, get_or, drop, refl, sym, ap, ◌∙◌, subst, arith, Option, None, All, nat_cmp}
use Rattle.std.specs.Cmp.{IsTotalOrder, nat_cmp_is}
use Rattle.std.specs.List.{zip}
use Rattle.std.specs.List.Sorted.{IsPermutation, IsSorted, IsStrictlyIncreasing}
use Rattle.std.specs.Ordering.{ordering_then, is_lt}
use Rattle.std.specs.declared.cmp.Ordering.{Ordering}
use Rattle.std.specs.declared.cmp.Ordering.TheVariants.{Less, Equal, Greater}
use Rattle.std.proofs.lemmas.Cmp.{nat_cmp_total, on_total, then_total, ranked}
use Rattle.std.proofs.lemmas.List.Elements.{All-cons, All-weaker}
use Rattle.std.proofs.lemmas.List.Sorted.{All-permutation, IsPermutation-map, length_permutation, sorted_far, ranks_by}
use Rattle.std.proofs.Math.Seq.{drop-cons}
use Rattle.std.proofs.lemmas.List.{get_or-map, length-map}
use Rattle.aql_base.specs.Sorting.{put_in_order, sorted_by}
use Rattle.aql_base.specs.SortingLaws.{IsSorted-map, IsSorted-sorted_by, SameBag-sorted_by, sorted_by-unique}
use Rattle.row_values.specs.Datums.{Datum}
use Rattle.row_values.specs.Rows.{row_cmp, IsInOrder, sorted}
use Rattle.row_values.specs.SortedRows.{sorted-unique}
use Rattle.std.proofs.lemmas.Slice.Zip.{firsts-zip}
use Rattle.row_values.specs.RowOrder.{row_cmp_total, row_cmp_exact}
use Rattle.span_token.specs.Extents.{Extent}
use Rattle.span_sets.specs.Consolidation.{in_row_order, rows_in_order, targets_in_order}
use Rattle.span_sets.specs.Orders.{numbered_from, numbered_cmp, row_order_of}

pub numbered_from-nil : (i : ℕ) → numbered_from i [] ≡ []
unfolding numbered_from
numbered_from-nil i = refl

-- one more row
pub numbered_from-push : (i j : ℕ) (rows : List (List Datum)) (row : List Datum) → i + length rows ≡ j → numbered_from i (rows ++ row ∷ []) ≡ numbered_from i rows ++ (row, j) ∷ []
unfolding numbered_from
numbered_from-push i j [] row e = ap (λ n. (row, n) ∷ []) (omega (arith, e))
numbered_from-push i j (r ∷ rows) row e = ap (λ ps. (r, i) ∷ ps) (numbered_from-push (i + 1) j rows row (omega (arith, e)))

length-numbered_from : (i : ℕ) (rows : List (List Datum)) → length (numbered_from i rows) ≡ length rows
unfolding numbered_from
length-numbered_from i [] = refl
length-numbered_from i (row ∷ rows) = ap suc (length-numbered_from (i + 1) rows)

numbered_cmp_total : IsTotalOrder numbered_cmp
numbered_cmp_total = then_total (on_total (λ (p : List Datum × ℕ). p.0) row_cmp_total) (on_total (λ (p : List Datum × ℕ). p.1) nat_cmp_total)

then_equal : (o p : Ordering) → ordering_then o p ≡ Equal → (o ≡ Equal) × (p ≡ Equal)
then_equal Less p e = absurd cc
then_equal Equal p e = (refl, e)
then_equal Greater p e = absurd cc

numbered_cmp_exact : (p q : List Datum × ℕ) → numbered_cmp p q ≡ Equal → p ≡ q
numbered_cmp_exact p q e =
    let both = then_equal (row_cmp p.0 q.0) (nat_cmp p.1 q.1) e in
    let rows = row_cmp_exact p.0 q.0 both.0 in
    let numbers = ranked p.1 q.1 Equal (sym both.1) in
    λ i. (rows i, numbers i)

-- a list of numbered rows that is sorted by row and number is the one in row order
pub row_order_of-unique : (rows : List (List Datum)) (out : List (List Datum × ℕ)) → IsSorted numbered_cmp out → IsPermutation (numbered_from 0 rows) out → out ≡ row_order_of rows
row_order_of-unique rows out up bag = sorted_by-unique numbered_cmp_total numbered_cmp_exact (numbered_from 0 rows) out up bag

-- the same of what shows numbered rows
pub row_order_of-shown : {R : Type 0} (shown : R → List Datum × ℕ) (rows : List (List Datum)) (before after : List R) → map shown before ≡ numbered_from 0 rows → IsPermutation before after → IsSorted (λ a b. numbered_cmp (shown a) (shown b)) after → map shown after ≡ row_order_of rows
row_order_of-shown shown rows before after is moved up =
    row_order_of-unique rows (map shown after) (IsSorted-map numbered_cmp shown after up) (subst (λ xs. IsPermutation xs (map shown after)) is (IsPermutation-map shown before after moved))

less_first_two : (o p q : Ordering) → is_lt (ordering_then o (ordering_then p q)) ≡ false → is_lt (ordering_then o p) ≡ false
less_first_two Less p q e = e
less_first_two Equal Less q e = e
less_first_two Equal Equal q e = refl
less_first_two Equal Greater q e = refl
less_first_two Greater p q e = refl

-- a list that is sorted by row, number and more is sorted by row and number
pub IsSorted-first_two : {R : Type 0} (shown : R → List Datum × ℕ) (more : R → R → Ordering) (xs : List R)
    → IsSorted (λ a b. ordering_then (row_cmp (shown a).0 (shown b).0) (ordering_then (nat_cmp (shown a).1 (shown b).1) (more a b))) xs → IsSorted (λ a b. numbered_cmp (shown a) (shown b)) xs
IsSorted-first_two shown more xs up = λ k d low high.
    let next = get_or xs (k + 1) d in
    let here = get_or xs k d in
    less_first_two (row_cmp (shown next).0 (shown here).0) (nat_cmp (shown next).1 (shown here).1) (more next here) (up k d low high)

-- numbers are those of the rows
numbers_from : (P : List Datum → Type 0) (i : ℕ) (rows : List (List Datum)) → All P rows → All (λ p. P p.0 × (i ≤ p.1) × (p.1 < i + length rows)) (numbered_from i rows)
unfolding numbered_from
numbers_from P i [] all = λ k d h. absurd (omega arith)
numbers_from P i (row ∷ rows) all =
    All-cons (λ p. P p.0 × (i ≤ p.1) × (p.1 < i + length (row ∷ rows))) (row, i) (numbered_from (i + 1) rows)
    (all 0 row (omega arith), omega arith, omega arith)
    (All-weaker (λ p. P p.0 × (i + 1 ≤ p.1) × (p.1 < (i + 1) + length rows)) (λ p. P p.0 × (i ≤ p.1) × (p.1 < i + length (row ∷ rows))) (λ p h. (h.0, omega (arith, h.1), omega (arith, h.2))) (numbered_from (i + 1) rows) (numbers_from P (i + 1) rows (λ k d h. all (suc k) d (omega (arith, h)))))

-- what holds of each row holds in row order, with numbers below their count
pub All-row_order_of : (P : List Datum → Type 0) (rows : List (List Datum)) → All P rows → All (λ p. P p.0 × (0 ≤ p.1) × (p.1 < 0 + length rows)) (row_order_of rows)
All-row_order_of P rows all = All-permutation (λ p. P p.0 × (0 ≤ p.1) × (p.1 < 0 + length rows)) (numbered_from 0 rows) (row_order_of rows) (SameBag-sorted_by numbered_cmp_total (numbered_from 0 rows)) (numbers_from P 0 rows all)

pub length-row_order_of : (rows : List (List Datum)) → length (row_order_of rows) ≡ length rows
length-row_order_of rows = length_permutation (numbered_from 0 rows) (row_order_of rows) (SameBag-sorted_by numbered_cmp_total (numbered_from 0 rows)) ∙ length-numbered_from 0 rows

-- rows with their targets, by rows alone
abbrev with_target_cmp : (List Datum × Option Extent) → (List Datum × Option Extent) → Ordering
with_target_cmp p q = row_cmp p.0 q.0

module _ (targets : List (Option Extent)) where
  -- a numbered row with its target
  abbrev with_target : List Datum × ℕ → List Datum × Option Extent
  with_target p = (p.0, get_or targets p.1 None)

  greater : (m n : ℕ) → m < n → is_lt (nat_cmp n m) ≡ false
  greater m n h = ap is_lt (sym (nat_cmp_is n m Greater h))

  same_test : (o p : Ordering) → is_lt p ≡ false → is_lt (ordering_then o p) ≡ is_lt o
  same_test Less p h = refl
  same_test Equal p h = h
  same_test Greater p h = refl

  put : (row : List Datum) (i : ℕ) (ps : List (List Datum × ℕ)) → All (λ p. i < p.1) ps → map with_target (put_in_order numbered_cmp (row, i) ps) ≡ put_in_order with_target_cmp (with_target (row, i)) (map with_target ps)
  unfolding put_in_order
  put row i [] all = refl
  put row i (p ∷ ps) all =
      let test : is_lt (numbered_cmp p (row, i)) ≡ is_lt (row_cmp p.0 row) = same_test (row_cmp p.0 row) (nat_cmp p.1 i) (greater i p.1 (all 0 p (omega arith))) in
      rw test (by (is_lt (row_cmp p.0 row)) (put row i ps (λ k d h. all (suc k) d (omega (arith, h)))))
    where
      by : (b : Bool) → map with_target (put_in_order numbered_cmp (row, i) ps) ≡ put_in_order with_target_cmp (with_target (row, i)) (map with_target ps)
          → map with_target (cond b (p ∷ put_in_order numbered_cmp (row, i) ps) ((row, i) ∷ p ∷ ps)) ≡ cond b (with_target p ∷ put_in_order with_target_cmp (with_target (row, i)) (map with_target ps)) (with_target (row, i) ∷ with_target p ∷ map with_target ps)
      by true h = ap (λ qs. with_target p ∷ qs) h
      by false h = refl

  sort_with : (i : ℕ) (rows : List (List Datum)) → map with_target (sorted_by numbered_cmp (numbered_from i rows)) ≡ sorted_by with_target_cmp (map with_target (numbered_from i rows))
  unfolding sorted_by numbered_from
  sort_with i [] = refl
  sort_with i (row ∷ rows) =
      let above : All (λ p. i < p.1) (sorted_by numbered_cmp (numbered_from (i + 1) rows)) =
      All-permutation (λ p. i < p.1) (numbered_from (i + 1) rows) (sorted_by numbered_cmp (numbered_from (i + 1) rows)) (SameBag-sorted_by numbered_cmp_total (numbered_from (i + 1) rows))
      (All-weaker (λ p. Unit {0} × (i + 1 ≤ p.1) × (p.1 < (i + 1) + length rows)) (λ p. i < p.1) (λ p h. omega (arith, h.1)) (numbered_from (i + 1) rows) (numbers_from (λ r. Unit {0}) (i + 1) rows (λ k d h. tt))) in
      put row i (sorted_by numbered_cmp (numbered_from (i + 1) rows)) above ∙ ap (put_in_order with_target_cmp (with_target (row, i))) (sort_with (i + 1) rows)

  zipped : (i : ℕ) (rows : List (List Datum)) → i + length rows ≡ length targets → map with_target (numbered_from i rows) ≡ zip rows (drop i targets)
  unfolding numbered_from
  zipped i [] e = refl
  zipped i (row ∷ rows) e =
      let next : i + 1 ≡ suc i = omega arith in
      let rest : map with_target (numbered_from (i + 1) rows) ≡ zip rows (drop (suc i) targets) = zipped (i + 1) rows (omega (arith, e)) ∙ ap (λ n. zip rows (drop n targets)) next in
      rw (drop-cons targets i None (omega (arith, e))) (ap (λ qs. (row, get_or targets i None) ∷ qs) rest)

  -- the numbered rows in row order, with their targets, are the rows with their targets in row order
  pub in_row_order-numbered : (rows : List (List Datum)) → length targets ≡ length rows → map with_target (row_order_of rows) ≡ in_row_order rows targets
  unfolding in_row_order
  in_row_order-numbered rows e = sort_with 0 rows ∙ ap (sorted_by with_target_cmp) (zipped 0 rows (omega (arith, e)))

-- what holds of what a list shows holds of what is shown
pub All-shown : {R X : Type 0} (Q : X → Type 0) (shown : R → X) (xs : List R) → All Q (map shown xs) → All (λ r. Q (shown r)) xs
All-shown Q shown xs all k d h = subst Q (get_or-map shown xs k d (shown d) h) (all k (shown d) (omega (arith, h, length-map xs shown)))

map_map : {A B C : Type 0} (f : B → C) (g : A → B) (xs : List A) → map f (map g xs) ≡ map (λ x. f (g x)) xs
map_map f g [] = refl
map_map f g (x ∷ xs) = ap (λ ys. f (g x) ∷ ys) (map_map f g xs)

module _ {R : Type 0} (shown : R → List Datum × ℕ) (rows : List (List Datum)) (targets : List (Option Extent)) (order : List R) (is : map shown order ≡ row_order_of rows) (each : length targets ≡ length rows) where
  -- the targets of the rows in row order
  pub targets_in_order-shown : map (λ r. get_or targets (shown r).1 None) order ≡ targets_in_order rows targets
  targets_in_order-shown =
      sym (map_map (λ (p : List Datum × ℕ). get_or targets p.1 None) shown order) ∙ ap (λ ps. map (λ (p : List Datum × ℕ). get_or targets p.1 None) ps) is
      ∙ sym (map_map (λ (p : List Datum × Option Extent). p.1) (with_target targets) (row_order_of rows)) ∙ ap (λ ps. map (λ (p : List Datum × Option Extent). p.1) ps) (in_row_order-numbered targets rows each)

  -- and the rows
  pub rows_in_order-shown : map (λ r. (shown r).0) order ≡ rows_in_order rows targets
  rows_in_order-shown =
      sym (map_map (λ (p : List Datum × ℕ). p.0) shown order) ∙ ap (λ ps. map (λ (p : List Datum × ℕ). p.0) ps) is
      ∙ sym (map_map (λ (p : List Datum × Option Extent). p.0) (with_target targets) (row_order_of rows)) ∙ ap (λ ps. map (λ (p : List Datum × Option Extent). p.0) ps) (in_row_order-numbered targets rows each)

  pub length-order : length order ≡ length rows
  length-order = sym (length-map order shown) ∙ ap (λ ps. length ps) is ∙ length-row_order_of rows

-- the rows in row order are the sorted rows
pub rows_in_order-sorted : (rows : List (List Datum)) (targets : List (Option Extent)) → length targets ≡ length rows → rows_in_order rows targets ≡ sorted rows
unfolding in_row_order
rows_in_order-sorted rows targets each =
    let first : List Datum × Option Extent → List Datum = λ p. p.0 in
    let by_row : IsTotalOrder with_target_cmp = on_total first row_cmp_total in
    let bag : IsPermutation (map first (zip rows targets)) (map first (in_row_order rows targets)) = IsPermutation-map first (zip rows targets) (in_row_order rows targets) (SameBag-sorted_by by_row (zip rows targets)) in
    sorted-unique rows (map first (in_row_order rows targets)) (IsSorted-map row_cmp first (in_row_order rows targets) (IsSorted-sorted_by by_row (zip rows targets)))
    (subst (λ (rs : List (List Datum)). IsPermutation rs (map first (in_row_order rows targets))) (firsts-zip rows targets each) bag)

-- some of the rows of a list in order, from the first to the last, are in order
pub IsInOrder-picked : (rows : List (List Datum)) (numbers : List ℕ) → IsInOrder rows → IsStrictlyIncreasing numbers → All (λ i. i < length rows) numbers → IsInOrder (map (λ i. get_or rows i []) numbers)
IsInOrder-picked rows numbers up rising all = λ k d low high.
    let f : ℕ → List Datum = λ i. get_or rows i [] in
    let short : k + 1 < length numbers = omega (arith, high, length-map numbers f) in
    let here = get_or-map f numbers k 0 d (omega (arith, short)) in
    let next = get_or-map f numbers (k + 1) 0 d short in
    rw (here, next) (sorted_far (λ a b. is_lt (row_cmp a b)) (ranks_by row_cmp_total (λ (r : List Datum). r)) rows up (get_or numbers k 0) (get_or numbers (k + 1) 0) [] (omega (arith, rising k short)) (all (k + 1) 0 short))
