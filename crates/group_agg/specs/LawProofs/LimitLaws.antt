-- The first rows are one bag, and what is held at the end are they.
use Rattle.std.proofs.Common.{◌≡◌, ℕ, ◌+◌, ◌<◌, ◌≤◌, false, List, [], ◌∷◌, ◌++◌, Option, length, map, min, refl, sym, ap, subst, ◌∙◌, arith, All, get_or, take, drop}
use Rattle.std.specs.List.Sorted.{IsSorted}
use Rattle.std.specs.Ordering.{is_lt}
use Rattle.std.proofs.lemmas.List.{length-take, length-drop, length-map, get_or-take, get_or-drop, get_or_default, take-append-drop, map-append, append-nil}
use Rattle.std.proofs.lemmas.List.Elements.{All-map, All-weaker, All-take}
use Rattle.std.proofs.lemmas.List.Sorted.{length_permutation, All-permutation, sorted_far}
use Rattle.std.proofs.Math.Seq.{take-append_seam}
use Rattle.aql_base.specs.Bags.{SameBag}
use Rattle.aql_base.specs.Sorting.{sorted_by}
use Rattle.aql_base.specs.BagLaws.{SameBag-sym, SameBag-trans, SameBag-is, SameBag-append, SameBag-map}
use Rattle.aql_base.specs.SortingLaws.{SameBag-sorted_by, IsSorted-sorted_by, sorted_by-unique}
use Rattle.row_values.specs.Datums.{Datum}
use Rattle.row_values.specs.Rows.{RowList}
use Rattle.group_agg.specs.Limits.{keyed_cmp, number_kept, IsLimited}
use Rattle.group_agg.specs.Candidates.{keyed, pair_cmp, first_of}
use Rattle.group_agg.specs.LawProofs.FirstOf.{IsSorted-append, less}
use Rattle.group_agg.specs.LawProofs.Pairs.{pair_cmp_total, keyed_cmp_total, keyed_cmp_exact}

-- what a limit leaves is the front of all rows in that order
pub limited_is : (keys : List ℕ) (limit : Option ℕ) (rows out : RowList) → IsLimited keys limit rows out → SameBag out.rows (take (number_kept limit (length rows.rows)) (sorted_by (keyed_cmp keys) rows.rows))
limited_is keys limit rows out h =
    let cmp = keyed_cmp keys in
    let order = keyed_cmp_total keys in
    let xs = sorted_by cmp out.rows in
    let ys = sorted_by cmp h.rest in
    let to_xs = SameBag-sorted_by order out.rows in
    let to_ys = SameBag-sorted_by order h.rest in
    let inner : All (λ x. All (λ y. is_lt (cmp y x) ≡ false) ys) out.rows = All-weaker (λ x. All (λ y. is_lt (cmp y x) ≡ false) h.rest) (λ x. All (λ y. is_lt (cmp y x) ≡ false) ys) (λ x all. All-permutation (λ y. is_lt (cmp y x) ≡ false) h.rest ys to_ys all) out.rows h.first in
    let all : All (λ x. All (λ y. is_lt (cmp y x) ≡ false) ys) xs = All-permutation (λ x. All (λ y. is_lt (cmp y x) ≡ false) ys) out.rows xs to_xs inner in
    let up : IsSorted cmp (xs ++ ys) = IsSorted-append order xs ys (IsSorted-sorted_by order out.rows) (IsSorted-sorted_by order h.rest) all in
    let bag : SameBag rows.rows (xs ++ ys) = SameBag-trans _ _ _ (SameBag-sym _ _ h.parts) (SameBag-append out.rows xs h.rest ys to_xs to_ys) in
    let is : xs ++ ys ≡ sorted_by cmp rows.rows = sorted_by-unique order (keyed_cmp_exact keys) rows.rows (xs ++ ys) up bag in
    let long : length xs ≡ number_kept limit (length rows.rows) = length_permutation out.rows xs to_xs ∙ h.number in
    let front : xs ≡ take (number_kept limit (length rows.rows)) (sorted_by cmp rows.rows) = sym (take-append_seam xs ys) ∙ (λ i. take (long i) (is i)) in
    SameBag-trans _ _ _ to_xs (SameBag-is _ _ front)

-- two answers to one question are one bag
pub IsLimited-once : (keys : List ℕ) (limit : Option ℕ) (rows a b : RowList) → IsLimited keys limit rows a → IsLimited keys limit rows b → SameBag a.rows b.rows
IsLimited-once keys limit rows a b h k = SameBag-trans _ _ _ (limited_is keys limit rows a h) (SameBag-sym _ _ (limited_is keys limit rows b k))

-- all rows, where the limit allows them
pub IsLimited-all : (keys : List ℕ) (limit : Option ℕ) (rows : RowList) → number_kept limit (length rows.rows) ≡ length rows.rows → IsLimited keys limit rows rows
IsLimited-all keys limit rows e = record {
  rest = [];
  parts = SameBag-is _ _ (append-nil rows.rows);
  number = sym e;
  first = λ k d below j f low. absurd (omega arith);
  width_is = refl;
}

rows_of_pairs : (keys : List ℕ) (rows : List (List Datum)) → map (λ (p : List Datum × List Datum). p.1) (map (keyed keys) rows) ≡ rows
rows_of_pairs keys [] = refl
rows_of_pairs keys (row ∷ rows) = ap (λ more. row ∷ more) (rows_of_pairs keys rows)

-- the front of the rows in order
pub IsLimited-first : (keys : List ℕ) (limit : Option ℕ) (n : ℕ) (rows out : RowList) → n ≡ number_kept limit (length rows.rows) → n ≤ length rows.rows → out.width ≡ rows.width → out.rows ≡ map (λ p. p.1) (first_of n (map (keyed keys) rows.rows)) → IsLimited keys limit rows out
IsLimited-first keys limit n rows out kept not_more wide is =
    let ps = map (keyed keys) rows.rows in
    let sorted = sorted_by pair_cmp ps in
    let bag = SameBag-sorted_by pair_cmp_total ps in
    let long : length sorted ≡ length rows.rows = length_permutation ps sorted bag ∙ length-map rows.rows (keyed keys) in
    let whole : out.rows ++ map (λ p. p.1) (drop n sorted) ≡ map (λ p. p.1) sorted =
    ap (λ xs. xs ++ map (λ p. p.1) (drop n sorted)) is ∙ sym (map-append (λ (p : List Datum × List Datum). p.1) (take n sorted) (drop n sorted)) ∙ ap (map (λ p. p.1)) (take-append-drop n sorted) in
    record {
      rest = map (λ p. p.1) (drop n sorted);
      parts = SameBag-trans _ _ _ (SameBag-is _ _ whole) (SameBag-trans _ _ _ (SameBag-sym _ _ (SameBag-map (λ (p : List Datum × List Datum). p.1) ps sorted bag)) (SameBag-is _ _ (rows_of_pairs keys rows.rows)));
      number = ap length is ∙ length-map (take n sorted) (λ (p : List Datum × List Datum). p.1) ∙ length-take n sorted ∙ ap (min n) long ∙ omega (arith, not_more) ∙ kept;
      first = subst (All (λ kept. All (λ other. is_lt (keyed_cmp keys other kept) ≡ false) (map (λ p. p.1) (drop n sorted)))) (sym is) (none_first keys n rows.rows);
      width_is = wide;
    }
  where
    none_first : (keys : List ℕ) (n : ℕ) (rows : List (List Datum)) → All (λ kept. All (λ other. is_lt (keyed_cmp keys other kept) ≡ false) (map (λ p. p.1) (drop n (sorted_by pair_cmp (map (keyed keys) rows))))) (map (λ p. p.1) (take n (sorted_by pair_cmp (map (keyed keys) rows))))
    none_first keys n rows =
        let ps = map (keyed keys) rows in
        let sorted = sorted_by pair_cmp ps in
        let right : All (λ (p : List Datum × List Datum). p ≡ keyed keys p.1) sorted = All-permutation (λ (p : List Datum × List Datum). p ≡ keyed keys p.1) ps sorted (SameBag-sorted_by pair_cmp_total ps) (All-map (λ (p : List Datum × List Datum). p ≡ keyed keys p.1) (keyed keys) rows (λ k d below. refl)) in
        All-map (λ kept. All (λ other. is_lt (keyed_cmp keys other kept) ≡ false) (map (λ p. p.1) (drop n sorted))) (λ (p : List Datum × List Datum). p.1) (take n sorted)
        (λ k d below. All-map (λ other. is_lt (keyed_cmp keys other (get_or (take n sorted) k d).1) ≡ false) (λ (p : List Datum × List Datum). p.1) (drop n sorted)
        (λ j e low.
        let low_k : k < n = omega (arith, length-take n sorted) in
        let in_k : k < length sorted = omega (arith, length-take n sorted) in
        let in_j : n + j < length sorted = omega (arith, length-drop n sorted) in
        let a : get_or (take n sorted) k d ≡ get_or sorted k d = get_or-take n sorted k d low_k in
        let b : get_or (drop n sorted) j e ≡ get_or sorted (n + j) d = get_or-drop n sorted j e ∙ get_or_default sorted (n + j) e d in_j in
        let far : is_lt (pair_cmp (get_or sorted (n + j) d) (get_or sorted k d)) ≡ false = sorted_far (λ p q. is_lt (pair_cmp p q)) (less pair_cmp_total) sorted (IsSorted-sorted_by pair_cmp_total ps) k (n + j) d (omega arith) in_j in
        (λ i. is_lt (keyed_cmp keys (b i).1 (a i).1)) ∙ (λ i. is_lt (pair_cmp (sym (right (n + j) d in_j) i) (sym (right k d in_k) i))) ∙ far))

-- the rows at the front are as wide as the rows
pub held_wide : (keys : List ℕ) (n width : ℕ) (rows : List (List Datum)) → All (λ row. length row ≡ width) rows → All (λ (p : List Datum × List Datum). length p.1 ≡ width) (first_of n (map (keyed keys) rows))
held_wide keys n width rows h =
    let ps = map (keyed keys) rows in
    All-take (λ (p : List Datum × List Datum). length p.1 ≡ width) n (sorted_by pair_cmp ps)
    (All-permutation (λ (p : List Datum × List Datum). length p.1 ≡ width) ps (sorted_by pair_cmp ps) (SameBag-sorted_by pair_cmp_total ps)
    (All-map (λ (p : List Datum × List Datum). length p.1 ≡ width) (keyed keys) rows h))
