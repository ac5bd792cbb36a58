-- Groups and first rows as functions: each is the one answer of its relation.
use Rattle.std.proofs.Common.{◌≡◌, ◌≢◌, inl, inr, ℕ, ℤ, pos, zero, suc, ◌+◌, ◌<◌, Bool, false, not, List, [], ◌∷◌, Option, Some, None, length, map, filter, min, refl, sym, ap, subst, ◌∙◌, arith, All, Contains, AllPairs, get_or, take, drop}
use Rattle.std.specs.Cmp.{IsTotalOrder}
use Rattle.std.specs.Int.{saturate_to_bits}
use Rattle.std.specs.List.{dedup, AllZip}
use Rattle.std.specs.List.Sorted.{IsStrictlySortedBy}
use Rattle.std.specs.Ordering.{is_lt, eq_by_cmp}
use Rattle.std.specs.declared.cmp.Ordering.{Ordering}
use Rattle.std.specs.declared.cmp.Ordering.TheVariants.{Less, Equal}
use Rattle.std.proofs.lemmas.Cmp.{back_total, eq_by_cmp_equiv}
use Rattle.std.proofs.lemmas.List.{length-map, get_or-map, length-take, length-drop, get_or-take, get_or-drop, get_or_default, take-append-drop}
use Rattle.std.proofs.lemmas.List.Elements.{All-from_recursion, All-nil, All-cons, All-head, All-tail, All-take, All-filter, All-map, All-contains, All-contains_itself, Contains-get_or}
use Rattle.std.proofs.lemmas.List.Kept.{AllPairs-cons, IsStrictlySortedBy-dedup, Any-dedup, Contains-from_dedup}
use Rattle.std.proofs.lemmas.List.Sorted.{length_permutation, All-permutation, Contains-permutation, sorted_far}
use Rattle.aql_base.specs.Bags.{SameBag}
use Rattle.aql_base.specs.Sorting.{sorted_by}
use Rattle.aql_base.specs.BagLaws.{SameBag-refl, SameBag-sym, SameBag-trans, SameBag-is, SameBag-map, SameBag-filter}
use Rattle.aql_base.specs.CountLaws.{length-SameBag, told}
use Rattle.aql_base.specs.SortingLaws.{SameBag-sorted_by, IsSorted-sorted_by, sorted_by-SameBag}
use Rattle.row_values.specs.Datums.{Datum, null, int, datum_cmp, is_null}
use Rattle.row_values.specs.RowOrder.{datum_cmp_total, row_cmp_total, row_cmp_exact, row_cmp_itself}
use Rattle.row_values.specs.Rows.{RowList, row_cmp, value_in}
use Rattle.group_agg.specs.Groups.{key_of, group_of, values_of, integers_of, total_of, IsSum, IsFirst, IsAggregate, IsGrouped, StandsIn, IsFromRows, sum_of, first_in, aggregate, keys_in, grouped}
use Rattle.group_agg.specs.Limits.{keyed_cmp, number_kept, IsLimited, limited}
use Rattle.group_agg.specs.declared.agg.Agg.{Agg}
use Rattle.group_agg.specs.declared.agg.Agg.TheVariants.{Key, Count, CountOf, Sum, Min, Max}
use Rattle.group_agg.specs.LawProofs.FirstOf.{less}
use Rattle.group_agg.specs.LawProofs.LimitLaws.{limited_is}
use Rattle.group_agg.specs.LawProofs.Pairs.{keyed_cmp_total, keyed_cmp_exact}
use Rattle.group_agg.specs.LawProofs.SameInput.{aggregate_same}
use Rattle.group_agg.specs.LawProofs.Unique.{aggregate_once, IsGrouped-once}

IsSum-sum_of : (ns : List ℤ) → IsSum ns (sum_of ns)
IsSum-sum_of [] = refl
IsSum-sum_of (n ∷ ns) = refl

-- the front of a list in order is its first value
IsFirst-first_in : {cmp : Datum → Datum → Ordering} (order : IsTotalOrder cmp) (values : List Datum) → IsFirst (λ a b. is_lt (cmp a b)) values (first_in cmp values)
unfolding sorted_by
IsFirst-first_in {cmp} order [] = refl
IsFirst-first_in {cmp} order (x ∷ xs) =
    let values : List Datum = x ∷ xs in
    let front : List Datum = sorted_by cmp values in
    let bag = SameBag-sorted_by order values in
    let some : 0 < length front = omega (arith, length_permutation values front bag) in
    let back = SameBag-sym values front bag in (
      Contains-permutation front values (get_or front 0 null) back (Contains-get_or front 0 null some),
      All-permutation (λ other. is_lt (cmp other (get_or front 0 null)) ≡ false) front values back (λ k d below.
          (λ i. is_lt (cmp (get_or front k d) (get_or_default front 0 null d some i))) ∙ sorted_far (λ a b. is_lt (cmp a b)) (less order) front (IsSorted-sorted_by order values) 0 k d (omega arith) below),
    )

IsAggregate-aggregate : (key : List Datum) (group : List (List Datum)) (agg : Agg) → IsAggregate key group agg (aggregate key group agg)
IsAggregate-aggregate key group (Key k) = refl
IsAggregate-aggregate key group Count = refl
IsAggregate-aggregate key group (CountOf column) = refl
IsAggregate-aggregate key group (Sum column) = IsSum-sum_of (integers_of column group)
IsAggregate-aggregate key group (Min column) = IsFirst-first_in datum_cmp_total (values_of column group)
IsAggregate-aggregate key group (Max column) = IsFirst-first_in (back_total datum_cmp_total) (values_of column group)

row_is : (key : List Datum) (group : List (List Datum)) (aggs : List Agg) → AllZip (IsAggregate key group) aggs (map (aggregate key group) aggs)
row_is key group [] = tt
row_is key group (agg ∷ aggs) = (IsAggregate-aggregate key group agg, row_is key group aggs)

-- in a strictly sorted list each element is less than each later one
pairs : (xs : List (List Datum)) → IsStrictlySortedBy row_cmp xs → AllPairs (λ x y. x ≢ y) xs
unfolding IsStrictlySortedBy
pairs [] h = λ i j d low short. absurd (omega arith)
pairs (x ∷ xs) h = AllPairs-cons (λ a b. a ≢ b) x xs (λ k d below e. apart (row_cmp x (get_or xs k d)) (All-from_recursion (λ b. row_cmp x b ≡ Less) xs h.0 k d below) (sym (ap (row_cmp x) e) ∙ row_cmp_itself x)) (pairs xs h.1)
  where
    apart : (o : Ordering) → o ≡ Less → o ≡ Equal → ⊥
    apart o e f = cc

pub IsGrouped-grouped : (keys : List ℕ) (aggs : List Agg) (rows : List (List Datum)) → IsGrouped keys aggs rows (grouped keys aggs rows)
unfolding grouped
IsGrouped-grouped keys aggs rows =
    let all = map (key_of keys) rows in
    let up = sorted_by row_cmp all in
    let bag = SameBag-sorted_by row_cmp_total all in
    let E = eq_by_cmp row_cmp in
    record {
      group_keys = keys_in keys rows;
      distinct = pairs (dedup E up) (IsStrictlySortedBy-dedup row_cmp_total (λ a b. refl) up (IsSorted-sorted_by row_cmp_total all));
      exactly = λ key. (
        (λ at. Contains-permutation up all key (SameBag-sym all up bag) (Contains-from_dedup E up key at)),
        (λ at.
            let kept = Any-dedup (eq_by_cmp_equiv row_cmp_total) up key (Contains-permutation all up key bag at) in
            subst (Contains (dedup E up)) (sym (told row_cmp_total row_cmp_exact key kept.1 kept.4)) (kept.0, kept.2, kept.3)),
      );
      row_of = λ key. map (aggregate key (group_of keys rows key)) aggs;
      each_row = λ k d below. row_is (get_or (keys_in keys rows) k d) (group_of keys rows (get_or (keys_in keys rows) k d)) aggs;
      same_bag = SameBag-refl (map (λ key. map (aggregate key (group_of keys rows key)) aggs) (keys_in keys rows));
    }

pub IsGrouped-only : (keys : List ℕ) (aggs : List Agg) (rows out : List (List Datum)) → IsGrouped keys aggs rows out → SameBag (grouped keys aggs rows) out
IsGrouped-only keys aggs rows out h = IsGrouped-once keys aggs rows (grouped keys aggs rows) out (IsGrouped-grouped keys aggs rows) h

map_same : {X Y : Type 0} (f g : X → Y) → ((x : X) → f x ≡ g x) → (xs : List X) → map f xs ≡ map g xs
map_same f g h [] = refl
map_same f g h (x ∷ xs) = λ i. h x i ∷ map_same f g h xs i

-- an aggregate of a group in another order
aggregate-SameBag : (key : List Datum) (group group' : List (List Datum)) (agg : Agg) → SameBag group group' → aggregate key group agg ≡ aggregate key group' agg
aggregate-SameBag key group group' agg h = aggregate_once key group' agg (aggregate key group agg) (aggregate key group' agg) (aggregate_same key group group' agg (aggregate key group agg) h (IsAggregate-aggregate key group agg)) (IsAggregate-aggregate key group' agg)

pub grouped-SameBag : (keys : List ℕ) (aggs : List Agg) (rows rows' : List (List Datum)) → SameBag rows rows' → grouped keys aggs rows ≡ grouped keys aggs rows'
unfolding grouped
grouped-SameBag keys aggs rows rows' h =
    let same : keys_in keys rows ≡ keys_in keys rows' = ap (dedup (eq_by_cmp row_cmp)) (sorted_by-SameBag row_cmp_total row_cmp_exact (map (key_of keys) rows) (map (key_of keys) rows') (SameBag-map (key_of keys) rows rows' h)) in
    map_same (λ key. map (aggregate key (group_of keys rows key)) aggs) (λ key. map (aggregate key (group_of keys rows' key)) aggs)
    (λ key. map_same (aggregate key (group_of keys rows key)) (aggregate key (group_of keys rows' key)) (λ agg. aggregate-SameBag key (group_of keys rows key) (group_of keys rows' key) agg (SameBag-filter (λ row. eq_by_cmp row_cmp (key_of keys row) key) rows rows' h)) aggs) (keys_in keys rows)
    ∙ ap (map (λ key. map (aggregate key (group_of keys rows' key)) aggs)) same

module _ (rows : List (List Datum)) where
  abbrev Stands : Datum → Type 0
  Stands v = (row : List Datum) × (column : ℕ) × Contains rows row × (value_in row column ≡ v)

  values_stand : (p : List Datum → Bool) (column : ℕ) → All Stands (values_of column (filter p rows))
  values_stand p column =
      let there : All (Contains rows) (filter p rows) = All-filter p (Contains rows) rows (All-contains_itself rows) in
      All-filter (λ v. not (is_null v)) Stands (map (λ row. value_in row column) (filter p rows))
      (All-map Stands (λ row. value_in row column) (filter p rows) (λ k d below. (get_or (filter p rows) k d, column, there k d below, refl)))

  first_stands : (before : Datum → Datum → Bool) (values : List Datum) (v : Datum) → All Stands values → IsFirst before values v → StandsIn rows v
  first_stands before [] v all h = inl h
  first_stands before (x ∷ xs) v all h = inr (All-contains Stands (x ∷ xs) v all h.0)

  key_stands : (keys : List ℕ) (row : List Datum) (k : ℕ) → Contains rows row → StandsIn rows (get_or (key_of keys row) k null)
  key_stands [] row k at = inl refl
  key_stands (column ∷ keys) row zero at = inr (row, column, at, refl)
  key_stands (column ∷ keys) row (suc k) at = key_stands keys row k at

  value_stands : (keys : List ℕ) (row : List Datum) → Contains rows row → (agg : Agg) (v : Datum) → IsAggregate (key_of keys row) (group_of keys rows (key_of keys row)) agg v → IsFromRows rows agg v
  value_stands keys row at (Key k) v h = subst (StandsIn rows) (sym h) (key_stands keys row k at)
  value_stands keys row at Count v h = tt
  value_stands keys row at (CountOf column) v h = tt
  value_stands keys row at (Sum column) v h = tt
  value_stands keys row at (Min column) v h = first_stands (λ a b. is_lt (datum_cmp a b)) (values_of column (group_of keys rows (key_of keys row))) v (values_stand (λ other. eq_by_cmp row_cmp (key_of keys other) (key_of keys row)) column) h
  value_stands keys row at (Max column) v h = first_stands (λ a b. is_lt (datum_cmp b a)) (values_of column (group_of keys rows (key_of keys row))) v (values_stand (λ other. eq_by_cmp row_cmp (key_of keys other) (key_of keys row)) column) h

  row_stands : (keys : List ℕ) (row : List Datum) → Contains rows row → (aggs : List Agg) (out : List Datum) → AllZip (IsAggregate (key_of keys row) (group_of keys rows (key_of keys row))) aggs out → AllZip (IsFromRows rows) aggs out
  row_stands keys row at [] [] h = h
  row_stands keys row at [] (v ∷ out) h = absurd h
  row_stands keys row at (agg ∷ aggs) [] h = absurd h
  row_stands keys row at (agg ∷ aggs) (v ∷ out) h = (value_stands keys row at agg v h.0, row_stands keys row at aggs out h.1)

  pub IsGrouped-among : (keys : List ℕ) (aggs : List Agg) (out : List (List Datum)) → IsGrouped keys aggs rows out → All (λ row. AllZip (IsFromRows rows) aggs row) out
  IsGrouped-among keys aggs out g =
      All-permutation (λ row. AllZip (IsFromRows rows) aggs row) (map g.row_of g.group_keys) out g.same_bag
      (All-map (λ row. AllZip (IsFromRows rows) aggs row) g.row_of g.group_keys (λ k d below.
      let key = get_or g.group_keys k d in
      let at = (g.exactly key).0 (Contains-get_or g.group_keys k d below) in
      let row = get_or rows at.0 d in
      let low : at.0 < length rows = omega (arith, at.1, length-map rows (key_of keys)) in
      let is : key_of keys row ≡ key = sym (get_or-map (key_of keys) rows at.0 d key low) ∙ at.2 in
      let all : AllZip (IsAggregate (key_of keys row) (group_of keys rows (key_of keys row))) aggs (g.row_of key) = subst (λ k'. AllZip (IsAggregate k' (group_of keys rows k')) aggs (g.row_of key)) (sym is) (g.each_row k d below) in
      row_stands keys row (Contains-get_or rows at.0 d low) aggs (g.row_of key) all))

kept_again : (limit : Option ℕ) (n : ℕ) → min (number_kept limit n) n ≡ number_kept limit n
kept_again None n = omega arith
kept_again (Some m) n = omega arith

pub IsLimited-limited : (keys : List ℕ) (limit : Option ℕ) (rows : RowList) → IsLimited keys limit rows (record { width = rows.width; rows = limited keys limit rows.rows })
unfolding limited
IsLimited-limited keys limit rows =
    let cmp = keyed_cmp keys in
    let order = keyed_cmp_total keys in
    let up = sorted_by cmp rows.rows in
    let bag = SameBag-sorted_by order rows.rows in
    let n = number_kept limit (length rows.rows) in
    let long : length up ≡ length rows.rows = length_permutation rows.rows up bag in
    record {
      rest = drop n up;
      parts = SameBag-trans _ _ _ (SameBag-is _ _ (take-append-drop n up)) (SameBag-sym rows.rows up bag);
      number = length-take n up ∙ ap (min n) long ∙ kept_again limit (length rows.rows);
      first = λ k d below j e low.
          let low_k : k < n = omega (arith, length-take n up) in
          let in_j : n + j < length up = omega (arith, length-drop n up) in
          let a : get_or (take n up) k d ≡ get_or up k d = get_or-take n up k d low_k in
          let b : get_or (drop n up) j e ≡ get_or up (n + j) d = get_or-drop n up j e ∙ get_or_default up (n + j) e d in_j in
          (λ i. is_lt (cmp (b i) (a i))) ∙ sorted_far (λ p q. is_lt (cmp p q)) (less order) up (IsSorted-sorted_by order rows.rows) k (n + j) d (omega arith) in_j;
      width_is = refl;
    }

pub IsLimited-only : (keys : List ℕ) (limit : Option ℕ) (rows out : RowList) → IsLimited keys limit rows out → SameBag (limited keys limit rows.rows) out.rows
unfolding limited
IsLimited-only keys limit rows out h = SameBag-sym out.rows (take (number_kept limit (length rows.rows)) (sorted_by (keyed_cmp keys) rows.rows)) (limited_is keys limit rows out h)

pub limited-SameBag : (keys : List ℕ) (limit : Option ℕ) (rows rows' : List (List Datum)) → SameBag rows rows' → limited keys limit rows ≡ limited keys limit rows'
unfolding limited
limited-SameBag keys limit rows rows' h =
    let same = sorted_by-SameBag (keyed_cmp_total keys) (keyed_cmp_exact keys) rows rows' h in
    λ i. take (number_kept limit (length-SameBag rows rows' h i)) (same i)

-- so an answer is the bag of each answer to rows of the same bag
pub only_from : (keys : List ℕ) (limit : Option ℕ) (rows out : RowList) → IsLimited keys limit rows out → (same other : RowList) → SameBag same.rows rows.rows → IsLimited keys limit same other → SameBag other.rows out.rows
only_from keys limit rows out h same other bag g =
    SameBag-trans _ _ _ (SameBag-sym _ _ (IsLimited-only keys limit same other g)) (SameBag-trans _ _ _ (SameBag-is _ _ (limited-SameBag keys limit same.rows rows.rows bag)) (IsLimited-only keys limit rows out h))

-- the first rows are among the rows
pub All-limited : (P : List Datum → Type 0) (keys : List ℕ) (limit : Option ℕ) (rows : List (List Datum)) → All P rows → All P (limited keys limit rows)
unfolding limited
All-limited P keys limit rows all =
    let order = keyed_cmp_total keys in
    All-take P (number_kept limit (length rows)) (sorted_by (keyed_cmp keys) rows) (All-permutation P rows (sorted_by (keyed_cmp keys) rows) (SameBag-sorted_by order rows) all)

-- a group's row has a value for each aggregate
pub width-grouped : (keys : List ℕ) (aggs : List Agg) (rows : List (List Datum)) → All (λ row. length row ≡ length aggs) (grouped keys aggs rows)
unfolding grouped
width-grouped keys aggs rows = All-map (λ row. length row ≡ length aggs) (λ key. map (aggregate key (group_of keys rows key)) aggs) (keys_in keys rows) (λ k d below. length-map aggs (aggregate (get_or (keys_in keys rows) k d) (group_of keys rows (get_or (keys_in keys rows) k d))))

module _ (P : Datum → Type 0) (of_null : P null) (of_int : (n : ℤ) → P (int n)) where
  value_holds : (row : List Datum) (column : ℕ) → All P row → P (value_in row column)
  value_holds [] column all = of_null
  value_holds (x ∷ row) zero all = All-head P x row all
  value_holds (x ∷ row) (suc column) all = value_holds row column (All-tail P x row all)

  sum_holds : (ns : List ℤ) → P (sum_of ns)
  sum_holds [] = of_null
  sum_holds (n ∷ ns) = of_int (saturate_to_bits 63 (total_of (n ∷ ns)))

  stands_holds : (rows : List (List Datum)) (v : Datum) → All (All P) rows → StandsIn rows v → P v
  stands_holds rows v all (inl e) = subst P (sym e) of_null
  stands_holds rows v all (inr h) = subst P h.3 (value_holds h.0 h.1 (All-contains (All P) rows h.0 all h.2))

  aggregate_holds : (rows : List (List Datum)) (key : List Datum) (group : List (List Datum)) (agg : Agg) → All (All P) rows → IsFromRows rows agg (aggregate key group agg) → P (aggregate key group agg)
  aggregate_holds rows key group (Key k) all h = stands_holds rows (aggregate key group (Key k)) all h
  aggregate_holds rows key group Count all h = of_int (pos (length group))
  aggregate_holds rows key group (CountOf column) all h = of_int (pos (length (values_of column group)))
  aggregate_holds rows key group (Sum column) all h = sum_holds (integers_of column group)
  aggregate_holds rows key group (Min column) all h = stands_holds rows (aggregate key group (Min column)) all h
  aggregate_holds rows key group (Max column) all h = stands_holds rows (aggregate key group (Max column)) all h

  row_holds : (rows : List (List Datum)) (key : List Datum) (group : List (List Datum)) (aggs : List Agg) → All (All P) rows → AllZip (IsFromRows rows) aggs (map (aggregate key group) aggs) → All P (map (aggregate key group) aggs)
  row_holds rows key group [] all h = All-nil P
  row_holds rows key group (agg ∷ aggs) all h = All-cons P (aggregate key group agg) (map (aggregate key group) aggs) (aggregate_holds rows key group agg all h.0) (row_holds rows key group aggs all h.1)

  -- what holds of Null, of integers and of each value of the rows holds of each value of the groups' rows
  pub All-grouped : (keys : List ℕ) (aggs : List Agg) (rows : List (List Datum)) → All (All P) rows → All (All P) (grouped keys aggs rows)
  unfolding grouped
  All-grouped keys aggs rows all =
      let f : List Datum → List Datum = λ key. map (aggregate key (group_of keys rows key)) aggs in
      let from = IsGrouped-among rows keys aggs (grouped keys aggs rows) (IsGrouped-grouped keys aggs rows) in
      All-map (All P) f (keys_in keys rows) (λ k d below.
      let key = get_or (keys_in keys rows) k d in
      let row_from : AllZip (IsFromRows rows) aggs (f key) = subst (λ row. AllZip (IsFromRows rows) aggs row) (get_or-map f (keys_in keys rows) k d [] below) (from k [] (omega (arith, below, length-map (keys_in keys rows) f))) in
      row_holds rows key (group_of keys rows key) aggs all row_from)
