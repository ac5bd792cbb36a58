-- The rows of all groups are one bag.
use Rattle.std.proofs.Common.{◌≡◌, ◌≢◌, ◌⊎◌, inl, inr, eq-zero-or-pos, ◌↔◌, ℕ, ℤ, zero, suc, ◌+◌, ◌<◌, ◌≤◌, Bool, true, false, List, [], ◌∷◌, length, map, refl, sym, ap, subst, ◌∙◌, arith, All, Contains, get_or}
use Rattle.std.specs.Cmp.{IsTotalOrder}
use Rattle.std.specs.List.{AllPairs, AllZip}
use Rattle.std.specs.Ordering.{eq_by_cmp}
use Rattle.std.specs.declared.cmp.Ordering.{Ordering}
use Rattle.std.specs.declared.cmp.Ordering.TheVariants.{Equal}
use Rattle.std.proofs.lemmas.List.Elements.{All-contains, Contains-get_or}
use Rattle.std.proofs.lemmas.List.Sums.{sum_by-cons}
use Rattle.aql_base.specs.Bags.{SameBag, count_of}
use Rattle.aql_base.specs.BagLaws.{SameBag-trans, SameBag-sym, SameBag-map, SameBag-is}
use Rattle.aql_base.specs.CountLaws.{number_of, some_passes, one_at, told, SameBag-from_counts}
use Rattle.aql_base.specs.DistinctLists.{AllPairs-tail, AllPairs-not_among}
use Rattle.row_values.specs.Datums.{Datum}
use Rattle.row_values.specs.RowOrder.{row_cmp_total, row_cmp_exact}
use Rattle.group_agg.specs.Groups.{group_of, IsSum, IsFirst, values_of, integers_of, IsAggregate, IsGroupRow, IsGrouped}
use Rattle.group_agg.specs.Tallies.{comes_before}
use Rattle.group_agg.specs.declared.agg.Agg.{Agg}
use Rattle.group_agg.specs.declared.agg.Agg.TheVariants.{Key, Count, CountOf, Sum, Min, Max}
use Rattle.group_agg.specs.LawProofs.Aggregates.{alike}

module _ {X : Type 0} {cmp : X → X → Ordering} (order : IsTotalOrder cmp) (exact : (x y : X) → cmp x y ≡ Equal → x ≡ y) where
  counted : X → X → ℕ
  counted z y = number_of (eq_by_cmp cmp z y)

  in_front : (z x : X) (xs : List X) → count_of cmp z (x ∷ xs) ≡ number_of (eq_by_cmp cmp z x) + count_of cmp z xs
  in_front z x xs = sum_by-cons (λ y. number_of (eq_by_cmp cmp z y)) x xs

  -- a value that is counted is there
  contained : (xs : List X) (z : X) → 0 < count_of cmp z xs → Contains xs z
  contained xs z some =
      let at = some_passes (eq_by_cmp cmp z) xs some in
      (at.0, at.1, sym (told order exact z (get_or xs at.0 z) (at.2 z)))

  -- and one that is there is counted
  count_at : (xs : List X) (z : X) (k : ℕ) (d : X) → k < length xs → get_or xs k d ≡ z → 0 < count_of cmp z xs
  count_at [] z k d below e = absurd (omega arith)
  count_at (x ∷ xs) z zero d below e = omega (arith, in_front z x xs, ap (λ y. number_of (eq_by_cmp cmp z y)) e, one_at order exact z)
  count_at (x ∷ xs) z (suc k) d below e = omega (arith, in_front z x xs, count_at xs z k d (omega arith) e)

  once : (xs : List X) → AllPairs (λ a b. a ≢ b) xs → (z : X) → count_of cmp z xs ≤ 1
  once [] h z = omega arith
  once (x ∷ xs) h z = by (eq_by_cmp cmp z x) refl (eq-zero-or-pos (count_of cmp z xs)) (once xs (AllPairs-tail x xs h) z)
    where
      by : (b : Bool) → eq_by_cmp cmp z x ≡ b → (count_of cmp z xs ≡ 0) ⊎ (0 < count_of cmp z xs) → count_of cmp z xs ≤ 1 → count_of cmp z (x ∷ xs) ≤ 1
      by true e (inl none) later = omega (arith, in_front z x xs, ap number_of e)
      by true e (inr some) later = absurd (AllPairs-not_among x xs h (subst (Contains xs) (told order exact z x e) (contained xs z some)))
      by false e q later = omega (arith, in_front z x xs, ap number_of e, later)

  -- distinct values that are the same ones are one bag
  pub SameBag-from_distinct : (xs ys : List X) → AllPairs (λ a b. a ≢ b) xs → AllPairs (λ a b. a ≢ b) ys → ((z : X) → Contains xs z ↔ Contains ys z) → SameBag xs ys
  SameBag-from_distinct xs ys h k same = SameBag-from_counts order exact xs ys each
    where
      each : (z : X) → count_of cmp z xs ≡ count_of cmp z ys
      each z = by (eq-zero-or-pos (count_of cmp z xs)) (eq-zero-or-pos (count_of cmp z ys))
        where
          by : (count_of cmp z xs ≡ 0) ⊎ (0 < count_of cmp z xs) → (count_of cmp z ys ≡ 0) ⊎ (0 < count_of cmp z ys) → count_of cmp z xs ≡ count_of cmp z ys
          by (inl p) (inl q) = p ∙ sym q
          by (inl p) (inr q) =
              let c = (same z).1 (contained ys z q) in
              absurd (omega (arith, count_at xs z c.0 z c.1 c.2))
          by (inr p) (inl q) =
              let c = (same z).0 (contained xs z p) in
              absurd (omega (arith, count_at ys z c.0 z c.1 c.2))
          by (inr p) (inr q) = omega (arith, once xs h z, once ys k z)

sum_once : (ns : List ℤ) (v w : Datum) → IsSum ns v → IsSum ns w → v ≡ w
sum_once [] v w h k = h ∙ sym k
sum_once (n ∷ ns) v w h k = h ∙ sym k

first_once : (last : Bool) (vs : List Datum) (v w : Datum) → IsFirst (comes_before last) vs v → IsFirst (comes_before last) vs w → v ≡ w
first_once last [] v w h k = h ∙ sym k
first_once last (x ∷ xs) v w h k =
    alike last v w
    (All-contains (λ other. comes_before last other w ≡ false) (x ∷ xs) v k.1 h.0)
    (All-contains (λ other. comes_before last other v ≡ false) (x ∷ xs) w h.1 k.0)

-- an aggregate has one value
pub aggregate_once : (key : List Datum) (group : List (List Datum)) (agg : Agg) (v w : Datum) → IsAggregate key group agg v → IsAggregate key group agg w → v ≡ w
aggregate_once key group (Key k) v w h e = h ∙ sym e
aggregate_once key group Count v w h e = h ∙ sym e
aggregate_once key group (CountOf column) v w h e = h ∙ sym e
aggregate_once key group (Sum column) v w h e = sum_once (integers_of column group) v w h e
aggregate_once key group (Min column) v w h e = first_once false (values_of column group) v w h e
aggregate_once key group (Max column) v w h e = first_once true (values_of column group) v w h e

-- a group has one row
row_once : (key : List Datum) (group : List (List Datum)) (aggs : List Agg) (a b : List Datum) → AllZip (IsAggregate key group) aggs a → AllZip (IsAggregate key group) aggs b → a ≡ b
row_once key group [] [] [] h k = refl
row_once key group [] [] (w ∷ b) h k = absurd k
row_once key group [] (v ∷ a) b h k = absurd h
row_once key group (agg ∷ aggs) [] b h k = absurd h
row_once key group (agg ∷ aggs) (v ∷ a) [] h k = absurd k
row_once key group (agg ∷ aggs) (v ∷ a) (w ∷ b) h k =
    let first = aggregate_once key group agg v w h.0 k.0 in
    let rest = row_once key group aggs a b h.1 k.1 in
    λ i. first i ∷ rest i

-- two functions that agree on the elements
map_agree : {X Y : Type 0} (f g : X → Y) (xs : List X) → All (λ x. f x ≡ g x) xs → map f xs ≡ map g xs
map_agree f g [] h = refl
map_agree f g (x ∷ xs) h = λ i. h 0 x (omega arith) i ∷ map_agree f g xs (λ k d below. h (suc k) d (omega (arith, below))) i

-- two answers to one question are one bag
pub IsGrouped-once : (keys : List ℕ) (aggs : List Agg) (rows a b : List (List Datum)) → IsGrouped keys aggs rows a → IsGrouped keys aggs rows b → SameBag a b
IsGrouped-once keys aggs rows a b h k =
    let same : (key : List Datum) → Contains h.group_keys key ↔ Contains k.group_keys key = λ key. (λ c. (k.exactly key).1 ((h.exactly key).0 c), λ c. (h.exactly key).1 ((k.exactly key).0 c)) in
    let keys_same = SameBag-from_distinct row_cmp_total row_cmp_exact h.group_keys k.group_keys h.distinct k.distinct same in
    let rows_same : All (λ key. h.row_of key ≡ k.row_of key) h.group_keys = λ i d below.
    let key = get_or h.group_keys i d in
    let there = (same key).0 (Contains-get_or h.group_keys i d below) in
    row_once key (group_of keys rows key) aggs (h.row_of key) (k.row_of key) (h.each_row i d below) (All-contains (λ key. IsGroupRow keys aggs rows key (k.row_of key)) k.group_keys key k.each_row there) in
    let moved : SameBag (map h.row_of h.group_keys) (map k.row_of k.group_keys) = SameBag-trans _ _ _ (SameBag-is _ _ (map_agree h.row_of k.row_of h.group_keys rows_same)) (SameBag-map k.row_of h.group_keys k.group_keys keys_same) in
    SameBag-trans _ _ _ (SameBag-sym _ _ h.same_bag) (SameBag-trans _ _ _ moved k.same_bag)
