-- An aggregate that is added up row by row is the one that the definition asks for.
use Rattle.std.proofs.Common.{◌≡◌, ℕ, ℤ, pos, ◌+ℤ◌, ◌+◌, ◌<◌, ◌≤◌, ◌^◌, Bool, true, false, not, cond, List, [], ◌∷◌, ◌++◌, length, map, fold, filter, refl, sym, ap, subst, ◌∙◌, arith, All, Contains, true≢false, append_assoc, get_or}
use Rattle.std.specs.Cmp.{IsStrictWeakOrder}
use Rattle.std.specs.Int.{saturate_to_bits}
use Rattle.std.specs.List.{filter_map}
use Rattle.std.specs.Ordering.{is_lt, ordering_reverse, eq_by_cmp}
use Rattle.std.specs.declared.cmp.Ordering.{Ordering}
use Rattle.std.specs.declared.cmp.Ordering.TheVariants.{Less, Equal, Greater}
use Rattle.std.proofs.lemmas.Int.{ints}
use Rattle.std.proofs.lemmas.List.{map-append, length-append, append-nil, length-map}
use Rattle.std.proofs.lemmas.List.Elements.{All-push, All-weaker, All-contains, filter_passes, Contains-push, Contains-append_left, filter-append, filter_map-append}
use Rattle.std.proofs.lemmas.List.Filters.{length-filter_both}
use Rattle.std.proofs.lemmas.List.MinMax.{ranks_by, IsStrictWeakOrder-flip}
use Rattle.std.proofs.lemmas.List.Sums.{fold-append}
use Rattle.aql_base.specs.BagLaws.{SameBag-is}
use Rattle.row_values.specs.Datums.{Datum, null, int, truth, text, span, datum_cmp, is_null, integer_of}
use Rattle.row_values.specs.RowOrder.{datum_cmp_total, datum_cmp_exact}
use Rattle.row_values.specs.Rows.{row_cmp, value_in}
use Rattle.group_agg.specs.Groups.{key_of, group_of, values_of, integers_of, total_of, IsSum, IsFirst, IsAggregate, IsGroupRow, IsGrouped}
use Rattle.group_agg.specs.Tallies.{Sofar, comes_before, total, best, start, plus, plus_value, better, improved, added, tallied, finished, aggregate_of, row_of, AreKeys}
use Rattle.group_agg.specs.declared.agg.Agg.{Agg}
use Rattle.group_agg.specs.declared.agg.Agg.TheVariants.{Key, Count, CountOf, Sum, Min, Max}

pub filter_short : {X : Type 0} (p : X → Bool) (xs : List X) → length (filter p xs) ≤ length xs
filter_short p xs = omega (arith, length-filter_both p (λ x. not (p x)) (λ x. refl) xs)

-- the order of values, and the same from its end
pub ranks : (last : Bool) → IsStrictWeakOrder (comes_before last)
ranks false = ranks_by datum_cmp_total (λ (a : Datum). a)
ranks true = IsStrictWeakOrder-flip (λ a b. is_lt (datum_cmp a b)) (ranks_by datum_cmp_total (λ (a : Datum). a))

not_before_itself : (last : Bool) (v : Datum) → comes_before last v v ≡ false
not_before_itself last v = by (comes_before last v v) refl
  where
    by : (b : Bool) → comes_before last v v ≡ b → comes_before last v v ≡ false
    by true e = (ranks last).one_way v v e
    by false e = e

neither : (v w : Datum) (o : Ordering) → datum_cmp v w ≡ o → is_lt (datum_cmp v w) ≡ false → is_lt (datum_cmp w v) ≡ false → v ≡ w
neither v w Less e h k = absurd (true≢false (sym (ap is_lt e) ∙ h))
neither v w Equal e h k = datum_cmp_exact v w e
neither v w Greater e h k = absurd (true≢false (sym (ap is_lt (datum_cmp_total.antisymm w v ∙ ap ordering_reverse e)) ∙ k))

-- two values of which none comes before the other are equal
pub alike : (last : Bool) (v w : Datum) → comes_before last v w ≡ false → comes_before last w v ≡ false → v ≡ w
alike false v w h k = neither v w (datum_cmp v w) refl h k
alike true v w h k = neither v w (datum_cmp v w) refl k h

better_is : (last : Bool) (b y : Datum) → is_null y ≡ false → is_null b ≡ false → better last b y ≡ cond (comes_before last y b) y b
better_is last b y n m = λ i. cond (n i) b (cond (m i) y (cond (comes_before last y b) y b))

better_first : (last : Bool) (b y : Datum) → is_null y ≡ false → b ≡ null → better last b y ≡ y
better_first last b y n e = λ i. cond (n i) b (cond (is_null (e i)) y (cond (comes_before last y b) y b))

-- one more value
IsFirst-push : (last : Bool) (vs : List Datum) (b y : Datum) → All (λ w. is_null w ≡ false) vs → IsFirst (comes_before last) vs b → is_null y ≡ false → IsFirst (comes_before last) (vs ++ y ∷ []) (better last b y)
IsFirst-push last [] b y all h n =
    subst (IsFirst (comes_before last) (y ∷ [])) (sym (better_first last b y n h))
    (Contains-push [] y, All-push (λ w. comes_before last w y ≡ false) [] y (λ k d below. absurd (omega arith)) (not_before_itself last y))
IsFirst-push last (x ∷ xs) b y all h n =
    subst (λ v. Contains ((x ∷ xs) ++ y ∷ []) v × All (λ w. comes_before last w v ≡ false) ((x ∷ xs) ++ y ∷ [])) (sym (better_is last b y n (All-contains (λ w. is_null w ≡ false) (x ∷ xs) b all h.0)))
    (by (comes_before last y b) refl)
  where
    by : (c : Bool) → comes_before last y b ≡ c → Contains ((x ∷ xs) ++ y ∷ []) (cond c y b) × All (λ w. comes_before last w (cond c y b) ≡ false) ((x ∷ xs) ++ y ∷ [])
    by true e = (
      Contains-push (x ∷ xs) y,
      All-push (λ w. comes_before last w y ≡ false) (x ∷ xs) y
          (All-weaker (λ w. comes_before last w b ≡ false) (λ w. comes_before last w y ≡ false) (λ w k. (ranks last).chain w b y k ((ranks last).one_way y b e)) (x ∷ xs) h.1)
          (not_before_itself last y),
    )
    by false e = (
      Contains-append_left (x ∷ xs) (y ∷ []) b h.0,
      All-push (λ w. comes_before last w b ≡ false) (x ∷ xs) y h.1 e,
    )

values_of-push : (column : ℕ) (rows : List (List Datum)) (row : List Datum) → values_of column (rows ++ row ∷ []) ≡ values_of column rows ++ cond (not (is_null (value_in row column))) (value_in row column ∷ []) []
values_of-push column rows row = ap (filter (λ v. not (is_null v))) (map-append (λ r. value_in r column) rows (row ∷ [])) ∙ filter-append (λ v. not (is_null v)) (map (λ r. value_in r column) rows) (value_in row column ∷ [])

none_null : (column : ℕ) (rows : List (List Datum)) → All (λ w. is_null w ≡ false) (values_of column rows)
none_null column rows =
    All-weaker (λ w. not (is_null w) ≡ true) (λ w. is_null w ≡ false) (λ w e. turned (is_null w) e) (values_of column rows) (filter_passes (λ v. not (is_null v)) (map (λ r. value_in r column) rows))
  where
    turned : (b : Bool) → not b ≡ true → b ≡ false
    turned true e = absurd (true≢false (sym e))
    turned false e = refl

-- the first of the values so far, or of those and one more
IsFirst-row : (last : Bool) (column : ℕ) (rows : List (List Datum)) (row : List Datum) (b : Datum) → IsFirst (comes_before last) (values_of column rows) b → IsFirst (comes_before last) (values_of column (rows ++ row ∷ [])) (better last b (value_in row column))
IsFirst-row last column rows row b h =
    subst (λ vs. IsFirst (comes_before last) vs (better last b (value_in row column))) (sym (values_of-push column rows row)) (by (is_null (value_in row column)) refl)
  where
    by : (c : Bool) → is_null (value_in row column) ≡ c → IsFirst (comes_before last) (values_of column rows ++ cond (not (is_null (value_in row column))) (value_in row column ∷ []) []) (better last b (value_in row column))
    by true e =
        let same : better last b (value_in row column) ≡ b = λ i. cond (e i) b (cond (is_null b) (value_in row column) (cond (comes_before last (value_in row column) b) (value_in row column) b)) in
        let list : values_of column rows ++ cond (not (is_null (value_in row column))) (value_in row column ∷ []) [] ≡ values_of column rows = (λ i. values_of column rows ++ cond (not (e i)) (value_in row column ∷ []) []) ∙ append-nil (values_of column rows) in
        subst (λ v. IsFirst (comes_before last) (values_of column rows ++ cond (not (is_null (value_in row column))) (value_in row column ∷ []) []) v) (sym same)
        (subst (λ vs. IsFirst (comes_before last) vs b) (sym list) h)
    by false e =
        subst (λ c. IsFirst (comes_before last) (values_of column rows ++ cond (not c) (value_in row column ∷ []) []) (better last b (value_in row column))) (sym e)
        (IsFirst-push last (values_of column rows) b (value_in row column) (none_null column rows) h e)

-- the total of the integers so far
abbrev IsTotal : List ℤ → Sofar → Type 0
IsTotal [] s = s ≡ best null
IsTotal (n ∷ ns) s = s ≡ total (total_of (n ∷ ns))

IsTotal-push : (ns : List ℤ) (s : Sofar) (n : ℤ) → IsTotal ns s → IsTotal (ns ++ n ∷ []) (plus s n)
IsTotal-push [] s n h = ap (λ x. plus x n) h ∙ ap total (omega (arith, ints))
IsTotal-push (m ∷ ns) s n h = ap (λ x. plus x n) h ∙ ap total (sym (fold-append ◌+ℤ◌ (pos 0) (m ∷ ns) (n ∷ [])))

integers_of-push : (column : ℕ) (rows : List (List Datum)) (row : List Datum) → integers_of column (rows ++ row ∷ []) ≡ integers_of column rows ++ filter_map integer_of (value_in row column ∷ [])
integers_of-push column rows row = ap (filter_map integer_of) (map-append (λ r. value_in r column) rows (row ∷ [])) ∙ filter_map-append integer_of (map (λ r. value_in r column) rows) (value_in row column ∷ [])

IsTotal-value : (ns : List ℤ) (s : Sofar) (v : Datum) → IsTotal ns s → IsTotal (ns ++ filter_map integer_of (v ∷ [])) (plus_value s v)
IsTotal-value ns s (int n) h = IsTotal-push ns s n h
IsTotal-value ns s null h = subst (λ xs. IsTotal xs s) (sym (append-nil ns)) h
IsTotal-value ns s (truth b) h = subst (λ xs. IsTotal xs s) (sym (append-nil ns)) h
IsTotal-value ns s (text t) h = subst (λ xs. IsTotal xs s) (sym (append-nil ns)) h
IsTotal-value ns s (span e) h = subst (λ xs. IsTotal xs s) (sym (append-nil ns)) h

-- what is known after these rows of a group is right
abbrev IsRight : Agg → List Datum → List (List Datum) → Sofar → Type 0
IsRight (Key k) key rows s = s ≡ best (get_or key k null)
IsRight Count key rows s = s ≡ total (pos (length rows))
IsRight (CountOf column) key rows s = s ≡ total (pos (length (values_of column rows)))
IsRight (Sum column) key rows s = IsTotal (integers_of column rows) s
IsRight (Min column) key rows s = (b : Datum) × (s ≡ best b) × IsFirst (comes_before false) (values_of column rows) b
IsRight (Max column) key rows s = (b : Datum) × (s ≡ best b) × IsFirst (comes_before true) (values_of column rows) b

IsRight-start : (agg : Agg) (key : List Datum) → IsRight agg key [] (start agg key)
IsRight-start (Key k) key = refl
IsRight-start Count key = refl
IsRight-start (CountOf column) key = refl
IsRight-start (Sum column) key = refl
IsRight-start (Min column) key = (null, refl, refl)
IsRight-start (Max column) key = (null, refl, refl)

one_more : (n : ℕ) → pos n +ℤ pos 1 ≡ pos (n + 1)
one_more n = refl

counted : (n m : ℕ) (s : Sofar) (b : Bool) → s ≡ total (pos n) → m ≡ n + cond (not b) 1 0 → cond b s (plus s (pos 1)) ≡ total (pos m)
counted n m s true h e = h ∙ ap (λ k. total (pos k)) (omega arith)
counted n m s false h e = ap (λ x. plus x (pos 1)) h ∙ ap (λ k. total (pos k)) (sym e)

length_of_one : (b : Bool) (v : Datum) → length (cond b (v ∷ []) []) ≡ cond b 1 0
length_of_one true v = refl
length_of_one false v = refl

IsRight-added : (agg : Agg) (key : List Datum) (rows : List (List Datum)) (s : Sofar) (row : List Datum) → IsRight agg key rows s → IsRight agg key (rows ++ row ∷ []) (added agg s row)
IsRight-added (Key k) key rows s row h = h
IsRight-added Count key rows s row h = ap (λ x. plus x (pos 1)) h ∙ ap (λ k. total (pos k)) (sym (length-append rows (row ∷ [])))
IsRight-added (CountOf column) key rows s row h =
    let v = value_in row column in
    counted (length (values_of column rows)) (length (values_of column (rows ++ row ∷ []))) s (is_null v) h
    (ap length (values_of-push column rows row) ∙ length-append (values_of column rows) (cond (not (is_null v)) (v ∷ []) []) ∙ ap (λ n. length (values_of column rows) + n) (length_of_one (not (is_null v)) v))
IsRight-added (Sum column) key rows s row h = subst (λ ns. IsTotal ns (plus_value s (value_in row column))) (sym (integers_of-push column rows row)) (IsTotal-value (integers_of column rows) s (value_in row column) h)
IsRight-added (Min column) key rows s row h = (better false h.0 (value_in row column), ap (λ x. improved false x (value_in row column)) h.1, IsFirst-row false column rows row h.0 h.2)
IsRight-added (Max column) key rows s row h = (better true h.0 (value_in row column), ap (λ x. improved true x (value_in row column)) h.1, IsFirst-row true column rows row h.0 h.2)

IsRight-folded : (agg : Agg) (key : List Datum) (seen rows : List (List Datum)) (s : Sofar) → IsRight agg key seen s → IsRight agg key (seen ++ rows) (fold (added agg) s rows)
IsRight-folded agg key seen [] s h = subst (λ xs. IsRight agg key xs s) (sym (append-nil seen)) h
IsRight-folded agg key seen (row ∷ rows) s h =
    subst (λ xs. IsRight agg key xs (fold (added agg) (added agg s row) rows)) (append_assoc seen (row ∷ []) rows)
    (IsRight-folded agg key (seen ++ row ∷ []) rows (added agg s row) (IsRight-added agg key seen s row h))

pub IsRight-tallied : (agg : Agg) (key : List Datum) (rows : List (List Datum)) → IsRight agg key rows (tallied agg key rows)
IsRight-tallied agg key rows = IsRight-folded agg key [] rows (start agg key) (IsRight-start agg key)

count_kept : (n : ℕ) → n < 2 ^ 63 → int (saturate_to_bits 63 (pos n)) ≡ int (pos n)
count_kept n h = ap (λ k. int (pos k)) (omega arith)

IsSum-total : (ns : List ℤ) (s : Sofar) → IsTotal ns s → IsSum ns (finished s)
IsSum-total [] s h = ap finished h
IsSum-total (n ∷ ns) s h = ap finished h

-- the value that is given is the aggregate
IsAggregate-finished : (agg : Agg) (key : List Datum) (rows : List (List Datum)) (s : Sofar) → length rows < 2 ^ 32 → IsRight agg key rows s → IsAggregate key rows agg (finished s)
IsAggregate-finished (Key k) key rows s few h = ap finished h
IsAggregate-finished Count key rows s few h = ap finished h ∙ count_kept (length rows) (omega arith)
IsAggregate-finished (CountOf column) key rows s few h =
    let short : length (values_of column rows) ≤ length rows = omega (arith, filter_short (λ v. not (is_null v)) (map (λ r. value_in r column) rows), length-map rows (λ r. value_in r column)) in
    ap finished h ∙ count_kept (length (values_of column rows)) (omega arith)
IsAggregate-finished (Sum column) key rows s few h = IsSum-total (integers_of column rows) s h
IsAggregate-finished (Min column) key rows s few h = subst (IsFirst (comes_before false) (values_of column rows)) (sym (ap finished h.1)) h.2
IsAggregate-finished (Max column) key rows s few h = subst (IsFirst (comes_before true) (values_of column rows)) (sym (ap finished h.1)) h.2

pub IsAggregate-aggregate_of : (keys : List ℕ) (rows : List (List Datum)) (key : List Datum) (agg : Agg) → length rows < 2 ^ 32 → IsAggregate key (group_of keys rows key) agg (aggregate_of keys rows key agg)
unfolding aggregate_of
IsAggregate-aggregate_of keys rows key agg few =
    let group = group_of keys rows key in
    IsAggregate-finished agg key group (tallied agg key group) (omega (arith, filter_short (λ row. eq_by_cmp row_cmp (key_of keys row) key) rows)) (IsRight-tallied agg key group)

pub IsGroupRow-row_of : (keys : List ℕ) (aggs : List Agg) (rows : List (List Datum)) (key : List Datum) → length rows < 2 ^ 32 → IsGroupRow keys aggs rows key (row_of keys aggs rows key)
IsGroupRow-row_of keys [] rows key few = tt
IsGroupRow-row_of keys (agg ∷ aggs) rows key few = (IsAggregate-aggregate_of keys rows key agg few, IsGroupRow-row_of keys aggs rows key few)

-- what the rows of all groups are an answer to
pub IsGrouped-made : (keys : List ℕ) (aggs : List Agg) (rows group_keys out : List (List Datum)) → length rows < 2 ^ 32 → AreKeys keys rows group_keys → out ≡ map (row_of keys aggs rows) group_keys → IsGrouped keys aggs rows out
IsGrouped-made keys aggs rows group_keys out few h e = record {
  group_keys = group_keys;
  distinct = h.distinct;
  exactly = h.exactly;
  row_of = row_of keys aggs rows;
  each_row = λ k d below. IsGroupRow-row_of keys aggs rows (get_or group_keys k d) few;
  same_bag = SameBag-is (map (row_of keys aggs rows) group_keys) out (sym e);
}
