-- The answer depends on the bag of the rows alone.
use Rattle.std.proofs.Common.{◌≡◌, ℕ, ℤ, pos, negsuc, ◌+ℤ◌, suc, Bool, false, not, List, [], ◌∷◌, map, fold, flat_map, refl, sym, ap, ◌∙◌, arith, get_or, Option}
use Rattle.std.specs.List.{filter_map, AllZip, sum_by}
use Rattle.std.specs.Int.{saturate_to_bits}
use Rattle.std.specs.Ordering.{is_lt, eq_by_cmp}
use Rattle.std.proofs.lemmas.Int.{ints}
use Rattle.std.proofs.lemmas.List.Sorted.{Contains-permutation, All-permutation, sum_by-IsPermutation}
use Rattle.std.proofs.lemmas.List.Sums.{sum_by-cons}
use Rattle.aql_base.specs.Bags.{SameBag}
use Rattle.aql_base.specs.BagLaws.{SameBag-sym, SameBag-trans, SameBag-is, SameBag-map, SameBag-filter, SameBag-flat_map}
use Rattle.aql_base.specs.CountLaws.{length-SameBag}
use Rattle.row_values.specs.Datums.{Datum, null, int, truth, text, span, datum_cmp, is_null, integer_of}
use Rattle.row_values.specs.Rows.{RowList, row_cmp, value_in}
use Rattle.group_agg.specs.Groups.{key_of, group_of, values_of, integers_of, total_of, IsSum, IsFirst, IsAggregate, IsGrouped}
use Rattle.group_agg.specs.Limits.{number_kept, IsLimited}
use Rattle.group_agg.specs.declared.agg.Agg.{Agg}
use Rattle.group_agg.specs.declared.agg.Agg.TheVariants.{Key, Count, CountOf, Sum, Min, Max}

-- the integers that a value is, none or one
abbrev ones : Datum → List ℤ
ones (int n) = n ∷ []
ones null = []
ones (truth b) = []
ones (text t) = []
ones (span s) = []

integers_are : (values : List Datum) → filter_map integer_of values ≡ flat_map ones values
integers_are [] = refl
integers_are (int n ∷ values) = ap (λ ns. n ∷ ns) (integers_are values)
integers_are (null ∷ values) = integers_are values
integers_are (truth b ∷ values) = integers_are values
integers_are (text t ∷ values) = integers_are values
integers_are (span s ∷ values) = integers_are values

SameBag-integers_of : (column : ℕ) (rows rows' : List (List Datum)) → SameBag rows rows' → SameBag (integers_of column rows) (integers_of column rows')
SameBag-integers_of column rows rows' h =
    let values = map (λ row. value_in row column) rows in
    let values' = map (λ row. value_in row column) rows' in
    SameBag-trans _ _ _ (SameBag-is _ _ (integers_are values)) (SameBag-trans _ _ _ (SameBag-flat_map ones values values' (SameBag-map (λ row. value_in row column) rows rows' h)) (SameBag-is _ _ (sym (integers_are values'))))

SameBag-values_of : (column : ℕ) (rows rows' : List (List Datum)) → SameBag rows rows' → SameBag (values_of column rows) (values_of column rows')
SameBag-values_of column rows rows' h = SameBag-filter (λ v. not (is_null v)) (map (λ row. value_in row column) rows) (map (λ row. value_in row column) rows') (SameBag-map (λ row. value_in row column) rows rows' h)

-- how far above 0 an integer is, and how far below
abbrev above : ℤ → ℕ
above (pos n) = n
above (negsuc n) = 0

abbrev below_zero : ℤ → ℕ
below_zero (pos n) = 0
below_zero (negsuc n) = suc n

parts_of : (n : ℤ) → n +ℤ pos (below_zero n) ≡ pos (above n)
parts_of (pos n) = omega (arith, ints)
parts_of (negsuc n) = omega (arith, ints)

total_parts : (a : ℤ) (ns : List ℤ) → fold ◌+ℤ◌ a ns +ℤ pos (sum_by below_zero ns) ≡ a +ℤ pos (sum_by above ns)
total_parts a [] = refl
total_parts a (n ∷ ns) = omega (arith, ints, total_parts (a +ℤ n) ns, parts_of n, sum_by-cons below_zero n ns, sum_by-cons above n ns)

total_same : (ns ms : List ℤ) → SameBag ns ms → total_of ns ≡ total_of ms
total_same ns ms h = omega (arith, ints, total_parts (pos 0) ns, total_parts (pos 0) ms, sum_by-IsPermutation below_zero ns ms h, sum_by-IsPermutation above ns ms h)

sum_same : (ns ms : List ℤ) (v : Datum) → SameBag ns ms → IsSum ns v → IsSum ms v
sum_same [] [] v h s = s
sum_same [] (m ∷ ms) v h s = absurd (omega (arith, length-SameBag [] (m ∷ ms) h))
sum_same (n ∷ ns) [] v h s = absurd (omega (arith, length-SameBag (n ∷ ns) [] h))
sum_same (n ∷ ns) (m ∷ ms) v h s = s ∙ ap (λ t. int (saturate_to_bits 63 t)) (total_same (n ∷ ns) (m ∷ ms) h)

first_same : (before : Datum → Datum → Bool) (vs ws : List Datum) (v : Datum) → SameBag vs ws → IsFirst before vs v → IsFirst before ws v
first_same before [] [] v h f = f
first_same before [] (w ∷ ws) v h f = absurd (omega (arith, length-SameBag [] (w ∷ ws) h))
first_same before (x ∷ xs) [] v h f = absurd (omega (arith, length-SameBag (x ∷ xs) [] h))
first_same before (x ∷ xs) (w ∷ ws) v h f = (Contains-permutation (x ∷ xs) (w ∷ ws) v h f.0, All-permutation (λ other. before other v ≡ false) (x ∷ xs) (w ∷ ws) h f.1)

-- an aggregate of a group in another order
pub aggregate_same : (key : List Datum) (group group' : List (List Datum)) (agg : Agg) (v : Datum) → SameBag group group' → IsAggregate key group agg v → IsAggregate key group' agg v
aggregate_same key group group' (Key k) v h a = a
aggregate_same key group group' Count v h a = a ∙ ap (λ n. int (pos n)) (length-SameBag group group' h)
aggregate_same key group group' (CountOf column) v h a = a ∙ ap (λ n. int (pos n)) (length-SameBag (values_of column group) (values_of column group') (SameBag-values_of column group group' h))
aggregate_same key group group' (Sum column) v h a = sum_same (integers_of column group) (integers_of column group') v (SameBag-integers_of column group group' h) a
aggregate_same key group group' (Min column) v h a = first_same (λ a b. is_lt (datum_cmp a b)) (values_of column group) (values_of column group') v (SameBag-values_of column group group' h) a
aggregate_same key group group' (Max column) v h a = first_same (λ a b. is_lt (datum_cmp b a)) (values_of column group) (values_of column group') v (SameBag-values_of column group group' h) a

row_same : (key : List Datum) (group group' : List (List Datum)) (aggs : List Agg) (row : List Datum) → SameBag group group' → AllZip (IsAggregate key group) aggs row → AllZip (IsAggregate key group') aggs row
row_same key group group' [] [] h a = a
row_same key group group' [] (v ∷ row) h a = absurd a
row_same key group group' (agg ∷ aggs) [] h a = absurd a
row_same key group group' (agg ∷ aggs) (v ∷ row) h a = (aggregate_same key group group' agg v h a.0, row_same key group group' aggs row h a.1)

-- the groups of rows in another order are the same ones
pub IsGrouped-SameBag : (keys : List ℕ) (aggs : List Agg) (rows rows' out : List (List Datum)) → SameBag rows rows' → IsGrouped keys aggs rows out → IsGrouped keys aggs rows' out
IsGrouped-SameBag keys aggs rows rows' out h g =
    let keys_same = SameBag-map (key_of keys) rows rows' h in
    let groups_same : (key : List Datum) → SameBag (group_of keys rows key) (group_of keys rows' key) = λ key. SameBag-filter (λ row. eq_by_cmp row_cmp (key_of keys row) key) rows rows' h in
    record {
      group_keys = g.group_keys;
      distinct = g.distinct;
      exactly = λ key. (λ c. Contains-permutation _ _ key keys_same ((g.exactly key).0 c), λ c. (g.exactly key).1 (Contains-permutation _ _ key (SameBag-sym _ _ keys_same) c));
      row_of = g.row_of;
      each_row = λ k d below. row_same (get_or g.group_keys k d) _ _ aggs (g.row_of (get_or g.group_keys k d)) (groups_same (get_or g.group_keys k d)) (g.each_row k d below);
      same_bag = g.same_bag;
    }

-- the first rows of rows in another order are the same ones
pub IsLimited-SameBag : (keys : List ℕ) (limit : Option ℕ) (rows rows' out : RowList) → SameBag rows.rows rows'.rows → rows.width ≡ rows'.width → IsLimited keys limit rows out → IsLimited keys limit rows' out
IsLimited-SameBag keys limit rows rows' out h same g = record {
  rest = g.rest;
  parts = SameBag-trans _ _ _ g.parts h;
  number = g.number ∙ ap (number_kept limit) (length-SameBag rows.rows rows'.rows h);
  first = g.first;
  width_is = g.width_is ∙ same;
}
