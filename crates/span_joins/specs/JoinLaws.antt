-- Laws of joins: rows in another order have the same join, each side may be gone through first, a join is a filter over
-- the product, and there is one join of two lists of rows.
use Rattle.std.proofs.Common.{◌≡◌, ℕ, ◌+◌, ◌<◌, Bool, true, false, cond, ◌↔◌, Option, Some, None, List, [], ◌∷◌, ◌++◌, map, length, refl, sym, ap, ap₂, subst, ◌∙◌, arith, All, length-append}
use Rattle.std.specs.List.{filter, flat_map}
use Rattle.std.proofs.lemmas.List.{map-append}
use Rattle.std.proofs.lemmas.List.Elements.{All-cons, All-nil, All-head, All-tail, All-append, filter-append}
use Rattle.aql_base.specs.Bags.{SameBag}
use Rattle.aql_base.specs.BagLaws.{SameBag-sym, SameBag-trans, SameBag-is, SameBag-flat_map, SameBag-flat_map_each, SameBag-pairs}
use Rattle.span_token.specs.Documents.{Doc}
use Rattle.span_token.specs.Extents.{Extent}
use Rattle.row_values.specs.Datums.{Datum, IsOfDocument}
use Rattle.row_values.specs.Rows.{RowList, RowsLieIn, product, span_in}
use Rattle.row_values.specs.RowBags.{span_in-left, span_in-right}
use Rattle.span_joins.specs.Joins.{holds, pairs, joined_where, IsJoin}

-- the row where the test holds
abbrev pub row_if : Bool → List Datum → List (List Datum)
row_if is row = cond is (row ∷ []) []

module _ (test : Extent → Extent → Bool) (lc rc : ℕ) where
  -- the pair of two rows, where the test holds of their spans
  abbrev pub row_pair : List Datum → List Datum → List (List Datum)
  row_pair l r = row_if (holds test (span_in lc l) (span_in rc r)) (l ++ r)

  with_each : (l : List Datum) (right : List (List Datum))
      → map (λ (p : List Datum × List Datum). p.0 ++ p.1) (filter (λ p. holds test (span_in lc p.0) (span_in rc p.1)) (map (λ r. (l, r)) right)) ≡ flat_map (row_pair l) right
  with_each l [] = refl
  with_each l (r ∷ right) = by (holds test (span_in lc l) (span_in rc r)) (filter (λ p. holds test (span_in lc p.0) (span_in rc p.1)) (map (λ s. (l, s)) right)) (with_each l right)
    where
      by : (b : Bool) (kept : List (List Datum × List Datum)) → map (λ (p : List Datum × List Datum). p.0 ++ p.1) kept ≡ flat_map (row_pair l) right
          → map (λ (p : List Datum × List Datum). p.0 ++ p.1) (cond b ((l, r) ∷ kept) kept) ≡ row_if b (l ++ r) ++ flat_map (row_pair l) right
      by true kept h = ap (λ zs. (l ++ r) ∷ zs) h
      by false kept h = h

  -- the join, one left row after another
  pub joined_where-rows : (left right : List (List Datum)) → joined_where test left lc right rc ≡ flat_map (λ l. flat_map (row_pair l) right) left
  unfolding joined_where pairs
  joined_where-rows [] right = refl
  joined_where-rows (l ∷ left) right =
      ap (λ ps. map (λ (p : List Datum × List Datum). p.0 ++ p.1) ps) (filter-append (λ p. holds test (span_in lc p.0) (span_in rc p.1)) (map (λ r. (l, r)) right) (flat_map (λ s. map (λ r. (s, r)) right) left))
      ∙ map-append (λ (p : List Datum × List Datum). p.0 ++ p.1) (filter (λ p. holds test (span_in lc p.0) (span_in rc p.1)) (map (λ r. (l, r)) right)) _
      ∙ ap₂ (λ (ys zs : List (List Datum)). ys ++ zs) (with_each l right) (joined_where-rows left right)

  -- the join of two bags is one bag
  pub joined_where-SameBag : (left left' right right' : List (List Datum)) → SameBag left left' → SameBag right right' → SameBag (joined_where test left lc right rc) (joined_where test left' lc right' rc)
  joined_where-SameBag left left' right right' h k =
      SameBag-trans _ _ _ (SameBag-is _ _ (joined_where-rows left right))
      (SameBag-trans _ _ _ (SameBag-flat_map (λ l. flat_map (row_pair l) right) left left' h)
      (SameBag-trans _ _ _ (SameBag-flat_map_each (λ l. flat_map (row_pair l) right) (λ l. flat_map (row_pair l) right') (λ l. SameBag-flat_map (row_pair l) right right' k) left')
      (SameBag-is _ _ (sym (joined_where-rows left' right')))))

  -- the right rows may be gone through first
  pub joined_where-swap : (left right : List (List Datum)) → SameBag (joined_where test left lc right rc) (flat_map (λ r. flat_map (λ l. row_pair l r) left) right)
  joined_where-swap left right = SameBag-trans _ _ _ (SameBag-is _ _ (joined_where-rows left right)) (SameBag-pairs row_pair left right)

  -- what holds of each left and each right row gives what holds of each row of the join
  all_of : {X : Type 0} (f : X → List (List Datum)) (R : List Datum → Type 0) (P : X → Type 0) → ((x : X) → P x → All R (f x)) → (xs : List X) → All P xs → All R (flat_map f xs)
  all_of f R P each [] h = All-nil R
  all_of f R P each (x ∷ xs) h = All-append R (f x) (flat_map f xs) (each x (All-head P x xs h)) (all_of f R P each xs (All-tail P x xs h))

  pub All-joined_where : (P Q R : List Datum → Type 0) → ((l r : List Datum) → P l → Q r → R (l ++ r)) → (left right : List (List Datum)) → All P left → All Q right → All R (joined_where test left lc right rc)
  All-joined_where P Q R both left right h k =
      subst (λ rows. All R rows) (sym (joined_where-rows left right))
      (all_of (λ l. flat_map (row_pair l) right) R P (λ l p. all_of (row_pair l) R Q (λ r q. one (holds test (span_in lc l) (span_in rc r)) (l ++ r) (both l r p q)) right k) left h)
    where
      one : (b : Bool) (row : List Datum) → R row → All R (row_if b row)
      one true row p = All-cons R row [] p (All-nil R)
      one false row p = All-nil R

  pub width-joined_where : (m n : ℕ) (left right : List (List Datum)) → All (λ row. length row ≡ m) left → All (λ row. length row ≡ n) right → All (λ row. length row ≡ m + n) (joined_where test left lc right rc)
  width-joined_where m n left right h k =
      All-joined_where (λ row. length row ≡ m) (λ row. length row ≡ n) (λ row. length row ≡ m + n) (λ l r p q. omega (arith, length-append l r, p, q)) left right h k

  pub RowsLieIn-joined_where : (document : Doc) (left right : List (List Datum)) → RowsLieIn document left → RowsLieIn document right → RowsLieIn document (joined_where test left lc right rc)
  RowsLieIn-joined_where document left right h k =
      All-joined_where (All (IsOfDocument document)) (All (IsOfDocument document)) (All (IsOfDocument document)) (λ l r p q. All-append (IsOfDocument document) l r p q) left right h k

  -- the join is a filter over the product: the left column stands where it was, the right one behind the left row
  module _ (m : ℕ) (inside : lc < m) where
    abbrev joins : List Datum → Bool
    joins row = holds test (span_in lc row) (span_in (m + rc) row)

    one_row : (l r : List Datum) → length l ≡ m → row_if (joins (l ++ r)) (l ++ r) ≡ row_pair l r
    one_row l r e =
        ap₂ (λ (a b : Option Extent). row_if (holds test a b) (l ++ r)) (span_in-left l r lc (subst (λ n. lc < n) (sym e) inside))
        (ap (λ n. span_in (n + rc) (l ++ r)) (sym e) ∙ span_in-right l r rc)

    kept_in_front : (b : Bool) (row : List Datum) (rows : List (List Datum)) → row_if b row ++ rows ≡ cond b (row ∷ rows) rows
    kept_in_front true row rows = refl
    kept_in_front false row rows = refl

    of_each : (l : List Datum) (right : List (List Datum)) → length l ≡ m → flat_map (row_pair l) right ≡ filter joins (map (λ r. l ++ r) right)
    of_each l [] e = refl
    of_each l (r ∷ right) e =
        ap₂ (λ (ys zs : List (List Datum)). ys ++ zs) (sym (one_row l r e)) (of_each l right e)
        ∙ kept_in_front (joins (l ++ r)) (l ++ r) (filter joins (map (λ s. l ++ s) right))

    filtered : (left right : List (List Datum)) → All (λ row. length row ≡ m) left → flat_map (λ l. flat_map (row_pair l) right) left ≡ filter joins (product left right)
    unfolding product
    filtered [] right h = refl
    filtered (l ∷ left) right h =
        ap₂ (λ (ys zs : List (List Datum)). ys ++ zs) (of_each l right (All-head (λ row. length row ≡ m) l left h)) (filtered left right (All-tail (λ row. length row ≡ m) l left h))
        ∙ sym (filter-append joins (map (λ r. l ++ r) right) (product left right))

    pub joined_where-product : (left right : List (List Datum)) → All (λ row. length row ≡ m) left → joined_where test left lc right rc ≡ filter (λ row. holds test (span_in lc row) (span_in (m + rc) row)) (product left right)
    joined_where-product left right h = joined_where-rows left right ∙ filtered left right h

same_answer : (x y : Bool) → (x ≡ true → y ≡ true) → (y ≡ true → x ≡ true) → x ≡ y
same_answer true y f g = sym (f refl)
same_answer false true f g = g refl
same_answer false false f g = refl

-- two tests that decide one predicate pick the same rows
pub IsJoin-once : (P : Extent → Extent → Type 0) (left : RowList) (lc : ℕ) (right : RowList) (rc : ℕ) (a b : RowList) → IsJoin P left lc right rc a → IsJoin P left lc right rc b → SameBag a.rows b.rows × (a.width ≡ b.width)
IsJoin-once P left lc right rc a b s t =
    let same : (d e : Extent) → s.test d e ≡ t.test d e = λ d e. same_answer (s.test d e) (t.test d e) (λ h. (t.decides d e).1 ((s.decides d e).0 h)) (λ h. (s.decides d e).1 ((t.decides d e).0 h)) in
    let one : joined_where s.test left.rows lc right.rows rc ≡ joined_where t.test left.rows lc right.rows rc = λ i. joined_where (λ d e. same d e i) left.rows lc right.rows rc in
    (SameBag-trans _ _ _ s.rows_are (SameBag-trans _ _ _ (SameBag-is _ _ one) (SameBag-sym _ _ t.rows_are)), s.width_is ∙ sym t.width_is)

-- and rows of the same bags have the same joins
pub IsJoin-SameBag : (P : Extent → Extent → Type 0) (left left' : RowList) (lc : ℕ) (right right' : RowList) (rc : ℕ) (out : RowList)
    → SameBag left.rows left'.rows → left.width ≡ left'.width → SameBag right.rows right'.rows → right.width ≡ right'.width → IsJoin P left lc right rc out → IsJoin P left' lc right' rc out
IsJoin-SameBag P left left' lc right right' rc out h m k n s = record {
  test = s.test;
  decides = s.decides;
  rows_are = SameBag-trans _ _ _ s.rows_are (joined_where-SameBag s.test lc rc left.rows left'.rows right.rows right'.rows h k);
  width_is = s.width_is ∙ ap₂ (λ (x y : ℕ). x + y) m n;
}
