-- Products of which one side shows columns of other rows, and products whose sides are swapped.
use Rattle.std.proofs.Common.{◌≡◌, ◌∙◌, ℕ, zero, suc, ◌+◌, ◌<◌, ◌≤◌, List, [], ◌∷◌, ◌++◌, map, length, refl, sym, ap, ap₂, subst, arith, flat_map}
use Rattle.std.specs.List.{All, range_with_len}
use Rattle.std.proofs.lemmas.List.{append-nil, append_assoc, length-append, map-append, get_or_at}
use Rattle.std.proofs.lemmas.List.FromFn.{length-range_with_len}
use Rattle.std.proofs.lemmas.List.Elements.{All-nil, All-cons, All-head, All-tail, All-append}
use Rattle.aql_base.specs.Bags.{SameBag}
use Rattle.aql_base.specs.BagLaws.{SameBag-sym, SameBag-trans, SameBag-is, SameBag-pairs}
use Rattle.span_token.specs.Documents.{Doc as Document}
use Rattle.row_values.specs.Datums.{Datum, null}
use Rattle.row_values.specs.Rows.{product, value_in}
use Rattle.row_values.specs.RowBags.{value_in-left, product-nil, product-cons}
use Rattle.scalar_ops.specs.Expressions.{column, ReadsBelow}
use Rattle.scalar_ops.specs.Tables.{Lists}
use Rattle.aql_typed.specs.Trees.{plain}
use Rattle.aql_typed.specs.Meaning.{Rows, row_of, projected}
use Rattle.algebra.specs.WidthLaws.{AreWide}
use Rattle.push_select.specs.Replacing.{columns_swapped}

-- ---- numbers of columns

-- columns that are read are there
pub columns_under : (w : ℕ) (shown : List ℕ) → All (ReadsBelow w) (map column shown) → All (λ n. n < w) shown
columns_under w [] all = All-nil (λ n. n < w)
columns_under w (n ∷ shown) all =
    All-cons (λ n. n < w) n shown ((All-head (ReadsBelow w) (column n) (map column shown) all) 0 0 (omega arith)) (columns_under w shown (All-tail (ReadsBelow w) (column n) (map column shown) all))

one_read : (w n : ℕ) → n < w → ReadsBelow w (column n)
one_read w n below = All-cons (λ k. k < w) n [] below (All-nil (λ k. k < w))

pub range_read : (first count w : ℕ) → first + count ≤ w → All (ReadsBelow w) (map column (range_with_len first count))
range_read first zero w enough = All-nil (ReadsBelow w)
range_read first (suc count) w enough =
    All-cons (ReadsBelow w) (column first) (map column (range_with_len (first + 1) count)) (one_read w first (omega (arith, enough))) (range_read (first + 1) count w (omega (arith, enough)))

range_last : (first count n : ℕ) → first + count ≡ n → range_with_len first (suc count) ≡ range_with_len first count ++ n ∷ []
range_last first zero n is = let same : first ≡ n = omega (arith, is) in ap (λ (k : ℕ). k ∷ []) same
range_last first (suc count) n is = ap (λ (ns : List ℕ). first ∷ ns) (range_last (first + 1) count n (omega (arith, is)))

-- one number more
pub range_more : (first count n : ℕ) → first + count ≡ n → range_with_len first (count + 1) ≡ range_with_len first count ++ n ∷ []
range_more first count n is =
    let on : count + 1 ≡ suc count = omega arith in
    ap (range_with_len first) on ∙ range_last first count n is

pub swapped_read : (w v : ℕ) → All (ReadsBelow (v + w)) (map column (columns_swapped w v))
swapped_read w v =
    subst (All (ReadsBelow (v + w))) (sym (map-append column (range_with_len v w) (range_with_len 0 v)))
    (All-append (ReadsBelow (v + w)) (map column (range_with_len v w)) (map column (range_with_len 0 v)) (range_read v w (v + w) (omega arith)) (range_read 0 v (v + w) (omega arith)))

pub swapped_long : (w v : ℕ) → length (columns_swapped w v) ≡ w + v
swapped_long w v = omega (arith, length-append (range_with_len v w) (range_with_len 0 v), length-range_with_len v w, length-range_with_len 0 v)

-- ---- rows

module _ (lists : Lists) (doc : Document) where
  abbrev show : List ℕ → List Datum → List Datum
  show shown row = row_of lists doc (map column shown) row

  show_append : (xs ys : List ℕ) (row : List Datum) → show (xs ++ ys) row ≡ show xs row ++ show ys row
  show_append [] ys row = refl
  show_append (n ∷ xs) ys row = ap (λ (rest : List Datum). value_in row n ∷ rest) (show_append xs ys row)

  -- the columns of the middle of a row
  between : (front mid back : List Datum) (k : ℕ) → length front ≡ k → show (range_with_len k (length mid)) (front ++ (mid ++ back)) ≡ mid
  between front [] back k is = refl
  between front (v ∷ mid) back k is =
      let same : (front ++ v ∷ []) ++ (mid ++ back) ≡ front ++ v ∷ (mid ++ back) = append_assoc front (v ∷ []) (mid ++ back) in
      let rest : show (range_with_len (k + 1) (length mid)) (front ++ v ∷ (mid ++ back)) ≡ mid =
      subst (λ (whole : List Datum). show (range_with_len (k + 1) (length mid)) whole ≡ mid) same
      (between (front ++ v ∷ []) mid back (k + 1) (omega (arith, is, length-append front (v ∷ [])))) in
      ap₂ (λ (x : Datum) (xs : List Datum). x ∷ xs) (get_or_at front v (mid ++ back) null k is) rest

  -- those of its end, and those of its front
  at_end : (l r : List Datum) (w u : ℕ) → length l ≡ w → length r ≡ u → show (range_with_len w u) (l ++ r) ≡ r
  at_end l r w u is_l is_r =
      subst (λ (n : ℕ). show (range_with_len w n) (l ++ r) ≡ r) is_r
      (subst (λ (row : List Datum). show (range_with_len w (length r)) (l ++ row) ≡ r) (append-nil r) (between l r [] w is_l))

  at_front : (l r : List Datum) (w : ℕ) → length l ≡ w → show (range_with_len 0 w) (l ++ r) ≡ l
  at_front l r w is = subst (λ (n : ℕ). show (range_with_len 0 n) (l ++ r) ≡ l) is (between [] l r 0 refl)

  in_front : (l r : List Datum) (shown : List ℕ) → All (λ n. n < length l) shown → show shown (l ++ r) ≡ show shown l
  in_front l r [] all = refl
  in_front l r (n ∷ shown) all =
      ap₂ (λ (x : Datum) (xs : List Datum). x ∷ xs) (value_in-left l r n (All-head (λ n. n < length l) n shown all)) (in_front l r shown (All-tail (λ n. n < length l) n shown all))

  -- ---- a side that shows columns

  module _ (shown : List ℕ) (w u : ℕ) (reads : All (ReadsBelow w) (map column shown)) where
    abbrev further : List ℕ
    further = shown ++ range_with_len w u

    row_further : (l r : List Datum) → length l ≡ w → length r ≡ u → show shown l ++ r ≡ show further (l ++ r)
    row_further l r is_l is_r =
        let below : All (λ n. n < length l) shown = subst (λ (k : ℕ). All (λ n. n < k) shown) (sym is_l) (columns_under w shown reads) in
        sym (show_append shown (range_with_len w u) (l ++ r) ∙ ap₂ (λ (xs ys : List Datum). xs ++ ys) (in_front l r shown below) (at_end l r w u is_l is_r))

    rows_further : (l : List Datum) → length l ≡ w → (right : Rows) → AreWide u right → map (λ r. show shown l ++ r) right ≡ map (show further) (map (λ r. l ++ r) right)
    rows_further l is [] wide = refl
    rows_further l is (r ∷ right) wide =
        ap₂ (λ (x : List Datum) (xs : Rows). x ∷ xs) (row_further l r is (All-head (λ row. length row ≡ u) r right wide)) (rows_further l is right (All-tail (λ row. length row ≡ u) r right wide))

    -- a product of columns of rows shows them, and those of the other side, of the product of the rows
    pub product-shown : (left right : Rows) → AreWide w left → AreWide u right
        → product (projected lists doc (plain (map column shown)) left) right ≡ projected lists doc (plain (map column further)) (product left right)
    product-shown [] right wide wide_r = product-nil right ∙ ap (map (show further)) (sym (product-nil right))
    product-shown (l ∷ left) right wide wide_r =
        product-cons (show shown l) (map (show shown) left) right
        ∙ (ap₂ (λ (xs ys : Rows). xs ++ ys) (rows_further l (All-head (λ row. length row ≡ w) l left wide) right wide_r) (product-shown left right (All-tail (λ row. length row ≡ w) l left wide) wide_r)
        ∙ (sym (map-append (show further) (map (λ r. l ++ r) right) (product left right)) ∙ ap (map (show further)) (sym (product-cons l left right))))

  -- ---- sides that are swapped

  one_each : {X Y : Type 0} (f : X → Y) (xs : List X) → map f xs ≡ flat_map (λ x. f x ∷ []) xs
  one_each f [] = refl
  one_each f (x ∷ xs) = ap (λ (ys : List _). f x ∷ ys) (one_each f xs)

  by_pairs : (left right : Rows) → product left right ≡ flat_map (λ l. flat_map (λ r. (l ++ r) ∷ []) right) left
  by_pairs [] right = product-nil right
  by_pairs (l ∷ left) right = product-cons l left right ∙ ap₂ (λ (xs ys : Rows). xs ++ ys) (one_each (λ (r : List Datum). l ++ r) right) (by_pairs left right)

  module _ (w v : ℕ) where
    abbrev back : List Datum → List Datum
    back row = show (columns_swapped w v) row

    -- the columns behind the second row, then those of the second
    swapped_row : (l r : List Datum) → length l ≡ w → length r ≡ v → l ++ r ≡ back (r ++ l)
    swapped_row l r is_l is_r =
        sym (show_append (range_with_len v w) (range_with_len 0 v) (r ++ l) ∙ ap₂ (λ (xs ys : List Datum). xs ++ ys) (at_end r l v w is_r is_l) (at_front r l v is_r))

    swapped_left : (left : Rows) (r : List Datum) → AreWide w left → length r ≡ v → flat_map (λ l. (l ++ r) ∷ []) left ≡ map back (map (λ l. r ++ l) left)
    swapped_left [] r wide is = refl
    swapped_left (l ∷ left) r wide is =
        ap₂ (λ (x : List Datum) (xs : Rows). x ∷ xs) (swapped_row l r (All-head (λ row. length row ≡ w) l left wide) is) (swapped_left left r (All-tail (λ row. length row ≡ w) l left wide) is)

    swapped_all : (left right : Rows) → AreWide w left → AreWide v right → flat_map (λ r. flat_map (λ l. (l ++ r) ∷ []) left) right ≡ map back (product right left)
    swapped_all left [] wide wide_r = sym (ap (map back) (product-nil left))
    swapped_all left (r ∷ right) wide wide_r =
        ap₂ (λ (xs ys : Rows). xs ++ ys) (swapped_left left r wide (All-head (λ row. length row ≡ v) r right wide_r)) (swapped_all left right wide (All-tail (λ row. length row ≡ v) r right wide_r))
        ∙ (sym (map-append back (map (λ l. r ++ l) left) (product right left)) ∙ ap (map back) (sym (product-cons r right left)))

    -- a product is the swapped one, with its columns in their order
    pub product-swapped : (left right : Rows) → AreWide w left → AreWide v right → SameBag (projected lists doc (plain (map column (columns_swapped w v))) (product right left)) (product left right)
    product-swapped left right wide wide_r =
        SameBag-sym _ _ (SameBag-trans _ _ _ (SameBag-is _ _ (by_pairs left right))
        (SameBag-trans _ _ _ (SameBag-pairs (λ (l r : List Datum). (l ++ r) ∷ []) left right) (SameBag-is _ _ (swapped_all left right wide wide_r))))
