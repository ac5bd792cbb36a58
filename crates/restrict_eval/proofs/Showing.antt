-- A join with columns of what is found is columns of the join with what is found.
use Rattle.std.proofs.Common.{◌≡◌, ◌∙◌, ℕ, zero, suc, ◌+◌, Bool, true, false, List, [], ◌∷◌, ◌++◌, map, length, refl, sym, ap, ap₂, subst, arith, Some}
use Rattle.std.specs.Prelude.{slice_get}
use Rattle.std.specs.List.{flat_map}
use Rattle.std.proofs.lemmas.List.{map-append, append_assoc, length-append, get_or_at}
use Rattle.std.proofs.lemmas.List.Elements.{All-head, All-tail}
use Rattle.std.proofs.lemmas.Option.{none-some, same_Some}
use Rattle.span_token.specs.Documents.{Doc}
use Rattle.span_token.specs.Extents.{Extent}
use Rattle.row_values.specs.Datums.{Datum, null, span_of}
use Rattle.row_values.specs.Rows.{value_in, span_in}
use Rattle.row_values.specs.RowBags.{value_in-right}
use Rattle.span_joins.specs.Joins.{holds, joined_where}
use Rattle.span_joins.specs.JoinLaws.{row_if, row_pair, joined_where-rows}
use Rattle.scalar_ops.specs.Expressions.{column}
use Rattle.scalar_ops.specs.Tables.{Lists}
use Rattle.scalar_ops.specs.Values.{value}
use Rattle.aql_typed.specs.Trees.{plain}
use Rattle.aql_typed.specs.Meaning.{Rows, row_of, projected}
use Rattle.algebra.specs.ExtractionLaws.{columns_from}
use Rattle.algebra.specs.WidthLaws.{AreWide}
use Rattle.restrict_eval.specs.Putting.{beside}

module _ (lists : Lists) (doc : Doc) where
  abbrev of_columns : List ℕ → List Datum → List Datum
  of_columns columns row = row_of lists doc (map column columns) row

  -- the columns of the middle of a row
  pub between : (front mid back : List Datum) (k : ℕ) → length front ≡ k → row_of lists doc (columns_from k (length mid)) (front ++ (mid ++ back)) ≡ mid
  between front [] back k is = refl
  between front (v ∷ mid) back k is =
      let same : (front ++ v ∷ []) ++ (mid ++ back) ≡ front ++ v ∷ (mid ++ back) = append_assoc front (v ∷ []) (mid ++ back) in
      let rest : row_of lists doc (columns_from (k + 1) (length mid)) (front ++ v ∷ (mid ++ back)) ≡ mid =
      subst (λ (whole : List Datum). row_of lists doc (columns_from (k + 1) (length mid)) whole ≡ mid) same
      (between (front ++ v ∷ []) mid back (k + 1) (omega (arith, is, length-append front (v ∷ [])))) in
      ap₂ (λ (x : Datum) (xs : List Datum). x ∷ xs) (get_or_at front v (mid ++ back) null k is) rest

  -- columns of the second of two rows
  behind : (l r : List Datum) (columns : List ℕ) → of_columns (map (λ c. length l + c) columns) (l ++ r) ≡ of_columns columns r
  behind l r [] = refl
  behind l r (c ∷ columns) = ap₂ (λ (x : Datum) (xs : List Datum). x ∷ xs) (value_in-right l r c) (behind l r columns)

  -- the first row, and columns of the second
  beside_row : (width : ℕ) (columns : List ℕ) (l r : List Datum) → length l ≡ width → l ++ of_columns columns r ≡ row_of lists doc (beside width columns) (l ++ r)
  beside_row width columns l r is =
      subst (λ (w : ℕ). l ++ of_columns columns r ≡ row_of lists doc (beside w columns) (l ++ r)) is
      (ap₂ (λ (xs ys : List Datum). xs ++ ys) (sym (between [] l r 0 refl)) (sym (behind l r columns))
      ∙ sym (map-append (value lists doc (l ++ r)) (columns_from 0 (length l)) (map column (map (λ c. length l + c) columns))))

  -- the column at an index
  column_at : (columns : List ℕ) (n c : ℕ) (row : List Datum) → slice_get columns n ≡ Some c → value_in (of_columns columns row) n ≡ value_in row c
  column_at [] n c row at = absurd (none-some c at)
  column_at (d ∷ columns) zero c row at = ap (value_in row) (same_Some d c at)
  column_at (d ∷ columns) (suc n) c row at = column_at columns n c row at

  if_shown : (f : List Datum → List Datum) (b : Bool) (row : List Datum) → row_if b (f row) ≡ map f (row_if b row)
  if_shown f true row = refl
  if_shown f false row = refl

  module _ (test : Extent → Extent → Bool) (lc rc width : ℕ) (columns : List ℕ) (at : slice_get columns rc ≡ Some 1) where
    abbrev shown : List Datum → List Datum
    shown row = row_of lists doc (beside width columns) row

    one_pair : (l r : List Datum) → length l ≡ width → row_pair test lc rc l (of_columns columns r) ≡ map shown (row_pair test lc 1 l r)
    one_pair l r is =
        ap₂ (λ (b : Bool) (row : List Datum). row_if b row) (ap (λ (d : Datum). holds test (span_in lc l) (span_of d)) (column_at columns rc 1 r at)) (beside_row width columns l r is)
        ∙ if_shown shown (holds test (span_in lc l) (span_in 1 r)) (l ++ r)

    one_row : (l : List Datum) (right : Rows) → length l ≡ width → flat_map (row_pair test lc rc l) (map (of_columns columns) right) ≡ map shown (flat_map (row_pair test lc 1 l) right)
    one_row l [] is = refl
    one_row l (r ∷ right) is =
        ap₂ (λ (xs ys : Rows). xs ++ ys) (one_pair l r is) (one_row l right is)
        ∙ sym (map-append shown (row_pair test lc 1 l r) (flat_map (row_pair test lc 1 l) right))

    all_rows : (left right : Rows) → AreWide width left
        → flat_map (λ l. flat_map (row_pair test lc rc l) (map (of_columns columns) right)) left ≡ map shown (flat_map (λ l. flat_map (row_pair test lc 1 l) right) left)
    all_rows [] right wide = refl
    all_rows (l ∷ left) right wide =
        ap₂ (λ (xs ys : Rows). xs ++ ys) (one_row l right (All-head (λ row. length row ≡ width) l left wide)) (all_rows left right (All-tail (λ row. length row ≡ width) l left wide))
        ∙ sym (map-append shown (flat_map (row_pair test lc 1 l) right) (flat_map (λ l. flat_map (row_pair test lc 1 l) right) left))

    pub joined-shown : (left right : Rows) → AreWide width left
        → joined_where test left lc (projected lists doc (plain (map column columns)) right) rc ≡ projected lists doc (plain (beside width columns)) (joined_where test left lc right 1)
    joined-shown left right wide =
        joined_where-rows test lc rc left (map (of_columns columns) right)
        ∙ (all_rows left right wide ∙ ap (map shown) (sym (joined_where-rows test lc 1 left right)))
