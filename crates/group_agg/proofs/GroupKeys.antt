-- The keys of the rows, each once, and the tallies of their groups.
use Rattle.std.proofs.Common.{◌≡◌, ◌≢◌, ◌⊎◌, inl, inr, ℕ, suc, pos, ◌+◌, ◌<◌, ◌≤◌, Bool, true, false, not, cond, List, [], ◌∷◌, ◌++◌, length, map, refl, sym, ap, subst, ◌∙◌, arith, All, Contains, true≢false, get_or, slice_get, Some, set}
use Rattle.std.specs.List.{AllPairs, IsDistinct, list_any}
use Rattle.std.specs.Ordering.{is_eq, eq_by_cmp}
use Rattle.std.proofs.lemmas.Bool.{cases_lt}
use Rattle.std.proofs.lemmas.Int.{ints}
use Rattle.std.proofs.lemmas.List.{map-append, length-append, append-nil, length-map, get_or-set_same, get_or-set_other, get_or-map, get_or_default, ext_get_or}
use Rattle.std.proofs.lemmas.List.Elements.{filter-append, All-push, All-weaker, Contains-push, Contains-push_cases, Contains-append_left}
use Rattle.std.proofs.lemmas.List.Sums.{fold-append}
use Rattle.std.proofs.lemmas.Option.{get_or_from_slice_get}
use Rattle.std.proofs.lemmas.Map.Made.{AllPairs-from_IsDistinct}
use Rattle.std.proofs.Math.ListN.{get_or-append, length-set}
use Rattle.std.proofs.Math.Seq.{get_or-append_seam}
use Rattle.aql_base.specs.CountLaws.{told}
use Rattle.row_values.specs.Datums.{Datum, null}
use Rattle.row_values.specs.RowOrder.{row_cmp_total, row_cmp_exact, row_cmp_itself}
use Rattle.row_values.specs.Rows.{row_cmp}
use Rattle.group_agg.specs.Groups.{key_of, group_of}
use Rattle.group_agg.specs.Tallies.{Sofar, total, best, start, added, tallied, tallies_of, finished, finished_at, aggregate_of, row_of, IsBounded, AreKeys, AreTallied}
use Rattle.group_agg.specs.declared.agg.Agg.{Agg}
use Rattle.group_agg.specs.declared.agg.Agg.TheVariants.{Key, Count, CountOf, Sum, Min, Max}

-- a value of distinct ones has one index
pub same_index : {X : Type 0} (xs : List X) → AllPairs (λ a b. a ≢ b) xs → (i j : ℕ) (d : X) → i < length xs → j < length xs → get_or xs i d ≡ get_or xs j d → i ≡ j
same_index xs h i j d below high e = by (cases_lt i j) (cases_lt j i)
  where
    by : (i < j) ⊎ (j ≤ i) → (j < i) ⊎ (i ≤ j) → i ≡ j
    by (inl lt) q = absurd (h i j d lt high e)
    by p (inl lt) = absurd (h j i d lt below (sym e))
    by (inr p) (inr q) = omega arith

equal_rows : (a b : List Datum) → a ≡ b → eq_by_cmp row_cmp a b ≡ true
equal_rows a b e = ap is_eq (ap (row_cmp a) (sym e) ∙ row_cmp_itself a)

same_decides : (a b : List Datum) → (eq_by_cmp row_cmp a b ≡ true → a ≡ b) × (a ≡ b → eq_by_cmp row_cmp a b ≡ true)
same_decides a b = (told row_cmp_total row_cmp_exact a b, equal_rows a b)

pub distinct_keys : (xs : List (List Datum)) → IsDistinct (eq_by_cmp row_cmp) xs → AllPairs (λ a b. a ≢ b) xs
distinct_keys xs h = AllPairs-from_IsDistinct same_decides xs h

pub AreKeys-none : (keys : List ℕ) → AreKeys keys [] []
AreKeys-none keys = record {
  distinct = λ i j d below high. absurd (omega arith);
  exactly = λ key. (λ c. c, λ c. c);
  few = omega arith;
}

-- the groups with the key of one more row: as they were, or with that key in addition
abbrev pub IsGrown : List (List Datum) → List Datum → List (List Datum) → Type 0
IsGrown groups key groups' = (groups' ≡ groups) ⊎ (groups' ≡ groups ++ key ∷ [])

pub IsGrown-insert_key : (groups groups' : List (List Datum)) (key : List Datum) → groups' ≡ cond (list_any (eq_by_cmp row_cmp key) groups) groups (groups ++ key ∷ []) → IsGrown groups key groups'
IsGrown-insert_key groups groups' key e = by (list_any (eq_by_cmp row_cmp key) groups) e
  where
    by : (b : Bool) → groups' ≡ cond b groups (groups ++ key ∷ []) → IsGrown groups key groups'
    by true e = inl e
    by false e = inr e

-- the key that was found is the one that was looked for
pub key_at : (groups : List (List Datum)) (n : ℕ) (key : List Datum) → (k : List Datum) × (slice_get groups n ≡ Some k) × (eq_by_cmp row_cmp key k ≡ true) → get_or groups n [] ≡ key
key_at groups n key h = get_or_from_slice_get groups n h.0 [] h.1 ∙ sym (told row_cmp_total row_cmp_exact key h.0 h.2)

grown_few : (groups groups' : List (List Datum)) (key : List Datum) → IsGrown groups key groups' → length groups' ≤ length groups + 1
grown_few groups groups' key (inl e) = omega (arith, ap length e)
grown_few groups groups' key (inr e) = omega (arith, ap length e, length-append groups (key ∷ []))

-- one more row, whose key is among the groups
pub AreKeys-more : (keys : List ℕ) (rows groups groups' : List (List Datum)) (row key : List Datum) → AreKeys keys rows groups → key ≡ key_of keys row → IsGrown groups key groups' → AllPairs (λ a b. a ≢ b) groups' → Contains groups' key
    → AreKeys keys (rows ++ row ∷ []) groups'
AreKeys-more keys rows groups groups' row key h is grown distinct there = record {
  distinct = distinct;
  exactly = λ k. (λ c. subst (λ ks. Contains ks k) (sym keys_are) (to k grown c), λ c. from k (Contains-push_cases (map (key_of keys) rows) key k (subst (λ ks. Contains ks k) keys_are c)));
  few = omega (arith, h.few, grown_few groups groups' key grown, length-append rows (row ∷ []));
}
  where
    keys_are : map (key_of keys) (rows ++ row ∷ []) ≡ map (key_of keys) rows ++ key ∷ []
    keys_are = map-append (key_of keys) rows (row ∷ []) ∙ ap (λ k. map (key_of keys) rows ++ k ∷ []) (sym is)

    old : (k : List Datum) → Contains groups k → Contains (map (key_of keys) rows ++ key ∷ []) k
    old k c = Contains-append_left (map (key_of keys) rows) (key ∷ []) k ((h.exactly k).0 c)

    either : (k : List Datum) → Contains groups k ⊎ (key ≡ k) → Contains (map (key_of keys) rows ++ key ∷ []) k
    either k (inl c) = old k c
    either k (inr e) = subst (Contains (map (key_of keys) rows ++ key ∷ [])) e (Contains-push (map (key_of keys) rows) key)

    to : (k : List Datum) → IsGrown groups key groups' → Contains groups' k → Contains (map (key_of keys) rows ++ key ∷ []) k
    to k (inl e) c = old k (subst (λ ks. Contains ks k) e c)
    to k (inr e) c = either k (Contains-push_cases groups key k (subst (λ ks. Contains ks k) e c))

    stays : (k : List Datum) → IsGrown groups key groups' → Contains groups k → Contains groups' k
    stays k (inl e) c = subst (λ ks. Contains ks k) (sym e) c
    stays k (inr e) c = subst (λ ks. Contains ks k) (sym e) (Contains-append_left groups (key ∷ []) k c)

    from : (k : List Datum) → Contains (map (key_of keys) rows) k ⊎ (key ≡ k) → Contains groups' k
    from k (inl c) = stays k grown ((h.exactly k).1 c)
    from k (inr e) = subst (Contains groups') e there

-- the keys with one more, by whether it is new
pub keys_by_new : (groups groups' : List (List Datum)) (key : List Datum) (is_new : Bool) → groups' ≡ cond (list_any (eq_by_cmp row_cmp key) groups) groups (groups ++ key ∷ []) → is_new ≡ not (list_any (eq_by_cmp row_cmp key) groups)
    → (is_new ≡ true → groups' ≡ groups ++ key ∷ []) × (is_new ≡ false → groups' ≡ groups)
keys_by_new groups groups' key is_new e n = by (list_any (eq_by_cmp row_cmp key) groups) e n
  where
    by : (b : Bool) → groups' ≡ cond b groups (groups ++ key ∷ []) → is_new ≡ not b → (is_new ≡ true → groups' ≡ groups ++ key ∷ []) × (is_new ≡ false → groups' ≡ groups)
    by true e n = (λ t. absurd (true≢false (sym t ∙ n)), λ f. e)
    by false e n = (λ t. e, λ f. absurd (true≢false (sym n ∙ f)))

-- a key that is added isn't there before
pub absent : (groups groups' : List (List Datum)) (key : List Datum) → AllPairs (λ a b. a ≢ b) groups' → groups' ≡ groups ++ key ∷ [] → Contains groups key → ⊥
absent groups groups' key distinct e c =
    let all : AllPairs (λ a b. a ≢ b) (groups ++ key ∷ []) = subst (AllPairs (λ a b. a ≢ b)) e distinct in
    let at : get_or (groups ++ key ∷ []) c.0 [] ≡ key = get_or-append groups (key ∷ []) [] c.0 c.1 ∙ get_or_default groups c.0 [] key c.1 ∙ c.2 in
    let same = same_index (groups ++ key ∷ []) all c.0 (length groups) [] (omega (arith, c.1, length-append groups (key ∷ []))) (omega (arith, length-append groups (key ∷ []))) (at ∙ sym (get_or-append_seam groups key [] [])) in
    omega (arith, c.1, same)

-- the key with the number n is there
pub contains_at : (groups : List (List Datum)) (n : ℕ) (key : List Datum) → n < length groups → get_or groups n [] ≡ key → Contains groups key
contains_at groups n key below e = (n, below, sym (get_or_default groups n [] key below) ∙ e)

-- a column at its indices
abbrev HasTallies : Agg → List ℕ → List (List Datum) → List (List Datum) → List Sofar → Type 0
HasTallies agg keys rows groups sofars = (k : ℕ) → k < length groups → get_or sofars k (best null) ≡ tallied agg (get_or groups k []) (group_of keys rows (get_or groups k []))

group_of-more : (keys : List ℕ) (rows : List (List Datum)) (row key : List Datum) → group_of keys (rows ++ row ∷ []) key ≡ group_of keys rows key ++ cond (eq_by_cmp row_cmp (key_of keys row) key) (row ∷ []) []
group_of-more keys rows row key = filter-append (λ r. eq_by_cmp row_cmp (key_of keys r) key) rows (row ∷ [])

tallied-in : (agg : Agg) (keys : List ℕ) (rows : List (List Datum)) (row key : List Datum) → key_of keys row ≡ key → tallied agg key (group_of keys (rows ++ row ∷ []) key) ≡ added agg (tallied agg key (group_of keys rows key)) row
tallied-in agg keys rows row key e =
    let grown : group_of keys (rows ++ row ∷ []) key ≡ group_of keys rows key ++ row ∷ [] = group_of-more keys rows row key ∙ (λ i. group_of keys rows key ++ cond (equal_rows (key_of keys row) key e i) (row ∷ []) []) in
    ap (tallied agg key) grown ∙ fold-append (added agg) (start agg key) (group_of keys rows key) (row ∷ [])

tallied-out : (agg : Agg) (keys : List ℕ) (rows : List (List Datum)) (row key : List Datum) → (key_of keys row ≡ key → ⊥) → tallied agg key (group_of keys (rows ++ row ∷ []) key) ≡ tallied agg key (group_of keys rows key)
tallied-out agg keys rows row key other = ap (tallied agg key) (group_of-more keys rows row key ∙ by (eq_by_cmp row_cmp (key_of keys row) key) refl)
  where
    by : (b : Bool) → eq_by_cmp row_cmp (key_of keys row) key ≡ b → group_of keys rows key ++ cond (eq_by_cmp row_cmp (key_of keys row) key) (row ∷ []) [] ≡ group_of keys rows key
    by true e = absurd (other (told row_cmp_total row_cmp_exact (key_of keys row) key e))
    by false e = (λ i. group_of keys rows key ++ cond (e i) (row ∷ []) []) ∙ append-nil (group_of keys rows key)

-- one more row, of the group with the number n
tallies-more : (agg : Agg) (keys : List ℕ) (rows groups : List (List Datum)) (row : List Datum) (n : ℕ) (sofars : List Sofar) → AllPairs (λ a b. a ≢ b) groups → length sofars ≡ length groups → n < length groups → get_or groups n [] ≡ key_of keys row
    → HasTallies agg keys rows groups sofars → HasTallies agg keys (rows ++ row ∷ []) groups (set sofars n (added agg (get_or sofars n (best null)) row))
tallies-more agg keys rows groups row n sofars distinct same there is h k below = by (cases_lt k n) (cases_lt n k)
  where
    outside : k ≢ n → get_or (set sofars n (added agg (get_or sofars n (best null)) row)) k (best null) ≡ tallied agg (get_or groups k []) (group_of keys (rows ++ row ∷ []) (get_or groups k []))
    outside differs =
        get_or-set_other sofars n k (added agg (get_or sofars n (best null)) row) (best null) differs ∙ h k below
        ∙ sym (tallied-out agg keys rows row (get_or groups k []) (λ e. differs (same_index groups distinct k n [] below there (sym (is ∙ e)))))

    by : (k < n) ⊎ (n ≤ k) → (n < k) ⊎ (k ≤ n) → get_or (set sofars n (added agg (get_or sofars n (best null)) row)) k (best null) ≡ tallied agg (get_or groups k []) (group_of keys (rows ++ row ∷ []) (get_or groups k []))
    by (inl lt) q = outside (λ e. absurd (omega arith))
    by p (inl lt) = outside (λ e. absurd (omega arith))
    by (inr p) (inr q) =
        let e : n ≡ k = omega arith in
        ap (λ j. get_or (set sofars n (added agg (get_or sofars n (best null)) row)) j (best null)) (sym e)
        ∙ get_or-set_same sofars n (added agg (get_or sofars n (best null)) row) (best null) (omega arith)
        ∙ ap (λ j. added agg (get_or sofars j (best null)) row) e
        ∙ ap (λ s. added agg s row) (h k below)
        ∙ sym (tallied-in agg keys rows row (get_or groups k []) (sym is ∙ ap (λ j. get_or groups j []) e))

pub IsBounded-weaker : (n m : ℕ) (s : Sofar) → n ≤ m → IsBounded n s → IsBounded m s
IsBounded-weaker n m (total t) le h = (omega (arith, ints, h.0, h.1), omega (arith, ints, h.0, h.1))
IsBounded-weaker n m (best v) le h = tt

-- one more row, in front, with another key
skipped : (keys : List ℕ) (row : List Datum) (rows : List (List Datum)) (key : List Datum) → (key_of keys row ≡ key → ⊥) → group_of keys rows key ≡ [] → group_of keys (row ∷ rows) key ≡ []
skipped keys row rows key other later = by (eq_by_cmp row_cmp (key_of keys row) key) refl
  where
    by : (b : Bool) → eq_by_cmp row_cmp (key_of keys row) key ≡ b → cond (eq_by_cmp row_cmp (key_of keys row) key) (row ∷ group_of keys rows key) (group_of keys rows key) ≡ []
    by true e = absurd (other (told row_cmp_total row_cmp_exact (key_of keys row) key e))
    by false e = (λ i. cond (e i) (row ∷ group_of keys rows key) (group_of keys rows key)) ∙ later

-- no row has a key that isn't there
group_of-none : (keys : List ℕ) (rows : List (List Datum)) (key : List Datum) → (Contains (map (key_of keys) rows) key → ⊥) → group_of keys rows key ≡ []
group_of-none keys [] key h = refl
group_of-none keys (row ∷ rows) key h = skipped keys row rows key (λ e. h (0, omega arith, e)) (group_of-none keys rows key (λ c. h (suc c.0, omega (arith, c.1), c.2)))

-- one more group, which has no row
tallies_of-started : (agg : Agg) (keys : List ℕ) (rows groups : List (List Datum)) (key : List Datum) → (Contains (map (key_of keys) rows) key → ⊥) → tallies_of agg keys rows groups ++ start agg key ∷ [] ≡ tallies_of agg keys rows (groups ++ key ∷ [])
tallies_of-started agg keys rows groups key none =
    let f = λ (k : List Datum). tallied agg k (group_of keys rows k) in
    ap (λ s. map f groups ++ s ∷ []) (ap (tallied agg key) (sym (group_of-none keys rows key none))) ∙ sym (map-append f groups (key ∷ []))

-- one more row, of the group with the number n
tallies_of-added : (agg : Agg) (keys : List ℕ) (rows groups : List (List Datum)) (row : List Datum) (n : ℕ) → AllPairs (λ a b. a ≢ b) groups → n < length groups → get_or groups n [] ≡ key_of keys row
    → set (tallies_of agg keys rows groups) n (added agg (get_or (tallies_of agg keys rows groups) n (best null)) row) ≡ tallies_of agg keys (rows ++ row ∷ []) groups
tallies_of-added agg keys rows groups row n distinct there is =
    let f = λ (k : List Datum). tallied agg k (group_of keys rows k) in
    let f' = λ (k : List Datum). tallied agg k (group_of keys (rows ++ row ∷ []) k) in
    let sofars = tallies_of agg keys rows groups in
    let more = tallies-more agg keys rows groups row n sofars distinct (length-map groups f) there is (λ k below. get_or-map f groups k [] (best null) below) in
    ext_get_or (best null) (set sofars n (added agg (get_or sofars n (best null)) row)) (map f' groups) (length-set sofars n (added agg (get_or sofars n (best null)) row) ∙ length-map groups f ∙ sym (length-map groups f'))
    (λ k below. more k (omega (arith, length-set sofars n (added agg (get_or sofars n (best null)) row), length-map groups f)) ∙ sym (get_or-map f' groups k [] (best null) (omega (arith, length-set sofars n (added agg (get_or sofars n (best null)) row), length-map groups f))))

pub AreTallied-none : (keys : List ℕ) (aggs : List Agg) (columns : List (List Sofar)) → length columns ≡ length aggs → All (λ column. column ≡ []) columns → AreTallied keys aggs [] [] columns
AreTallied-none keys aggs columns same empty = record {
  one_each = same;
  tallies = λ j below. empty j [] (omega (arith, same));
}

-- a tally for one more group in each column
abbrev pub HaveStarted : List Agg → List Datum → List (List Sofar) → List (List Sofar) → Type 0
HaveStarted aggs key columns columns' = (j : ℕ) → j < length aggs → get_or columns' j [] ≡ get_or columns j [] ++ start (get_or aggs j Count) key ∷ []

pub AreTallied-started : (keys : List ℕ) (aggs : List Agg) (rows groups groups' : List (List Datum)) (key : List Datum) (columns columns' : List (List Sofar)) → AreKeys keys rows groups → groups' ≡ groups ++ key ∷ [] → (Contains groups key → ⊥) → length columns' ≡ length columns
    → HaveStarted aggs key columns columns' → AreTallied keys aggs rows groups columns → AreTallied keys aggs rows groups' columns'
AreTallied-started keys aggs rows groups groups' key columns columns' k e none same started h = record {
  one_each = same ∙ h.one_each;
  tallies = λ j below.
      let agg = get_or aggs j Count in
      started j below ∙ ap (λ s. s ++ start agg key ∷ []) (h.tallies j below) ∙ tallies_of-started agg keys rows groups key (λ c. none ((k.exactly key).1 c)) ∙ ap (tallies_of agg keys rows) (sym e);
}

-- one more row in the tally with the number n of each column
abbrev pub HaveAdded : List Agg → List Datum → ℕ → List (List Sofar) → List (List Sofar) → Type 0
HaveAdded aggs row n columns columns' = (j : ℕ) → j < length aggs → get_or columns' j [] ≡ set (get_or columns j []) n (added (get_or aggs j Count) (get_or (get_or columns j []) n (best null)) row)

pub AreTallied-added : (keys : List ℕ) (aggs : List Agg) (rows groups : List (List Datum)) (row : List Datum) (n : ℕ) (columns columns' : List (List Sofar)) → AllPairs (λ a b. a ≢ b) groups → n < length groups → get_or groups n [] ≡ key_of keys row → length columns' ≡ length columns
    → HaveAdded aggs row n columns columns' → AreTallied keys aggs rows groups columns → AreTallied keys aggs (rows ++ row ∷ []) groups columns'
AreTallied-added keys aggs rows groups row n columns columns' distinct there is same more h = record {
  one_each = same ∙ h.one_each;
  tallies = λ j below.
      let agg = get_or aggs j Count in
      more j below ∙ ap (λ c. set c n (added agg (get_or c n (best null)) row)) (h.tallies j below) ∙ tallies_of-added agg keys rows groups row n distinct there is;
}

-- each column has a tally for each group
pub tallied_long : (keys : List ℕ) (aggs : List Agg) (rows groups : List (List Datum)) (columns : List (List Sofar)) → AreTallied keys aggs rows groups columns → All (λ column. length groups ≡ length column) columns
tallied_long keys aggs rows groups columns h j d below =
    let agg = get_or aggs j Count in
    sym (ap length (get_or_default columns j d [] below ∙ h.tallies j (omega (arith, h.one_each))) ∙ length-map groups (λ key. tallied agg key (group_of keys rows key)))

-- the totals in all columns are bounded
abbrev pub AreBounded : ℕ → List (List Sofar) → Type 0
AreBounded n columns = All (λ column. All (IsBounded n) column) columns

zero_is_bounded : IsBounded 0 (total (pos 0))
zero_is_bounded = (omega (arith, ints), omega (arith, ints))

start_is_bounded : (n : ℕ) (agg : Agg) (key : List Datum) → IsBounded n (start agg key)
start_is_bounded n (Key k) key = tt
start_is_bounded n Count key = IsBounded-weaker 0 n (total (pos 0)) (omega arith) zero_is_bounded
start_is_bounded n (CountOf column) key = IsBounded-weaker 0 n (total (pos 0)) (omega arith) zero_is_bounded
start_is_bounded n (Sum column) key = tt
start_is_bounded n (Min column) key = tt
start_is_bounded n (Max column) key = tt

pub AreBounded-started : (n : ℕ) (aggs : List Agg) (key : List Datum) (columns columns' : List (List Sofar)) → length columns ≡ length aggs → length columns' ≡ length columns → HaveStarted aggs key columns columns' → AreBounded n columns → AreBounded n columns'
AreBounded-started n aggs key columns columns' one_each same started h j d below =
    let agg = get_or aggs j Count in
    subst (All (IsBounded n)) (sym (get_or_default columns' j d [] below ∙ started j (omega (arith, one_each, same))))
    (All-push (IsBounded n) (get_or columns j []) (start agg key) (h j [] (omega (arith, same))) (start_is_bounded n agg key))

pub AreBounded-weaker : (n m : ℕ) (columns : List (List Sofar)) → n ≤ m → AreBounded n columns → AreBounded m columns
AreBounded-weaker n m columns le h j d below = All-weaker (IsBounded n) (IsBounded m) (λ s b. IsBounded-weaker n m s le b) (get_or columns j d) (h j d below)

-- the values of the tallies are the rows of the groups
row_is : (keys : List ℕ) (aggs : List Agg) (rows groups : List (List Datum)) (columns : List (List Sofar)) (g : ℕ) → AreTallied keys aggs rows groups columns → g < length groups → map (finished_at g) columns ≡ row_of keys aggs rows (get_or groups g [])
unfolding aggregate_of
row_is keys aggs rows groups columns g h there =
    let key = get_or groups g [] in
    ext_get_or null (map (finished_at g) columns) (map (aggregate_of keys rows key) aggs) (length-map columns (finished_at g) ∙ h.one_each ∙ sym (length-map aggs (aggregate_of keys rows key)))
    (λ j below.
    let agg = get_or aggs j Count in
    let low : j < length columns = omega (arith, length-map columns (finished_at g)) in
    let high : j < length aggs = omega (arith, low, h.one_each) in
    get_or-map (finished_at g) columns j [] null low ∙ ap (finished_at g) (h.tallies j high)
    ∙ ap finished (get_or-map (λ k. tallied agg k (group_of keys rows k)) groups g [] (best null) there)
    ∙ sym (get_or-map (aggregate_of keys rows key) aggs j Count null high))

pub rows_are : (keys : List ℕ) (aggs : List Agg) (rows groups out : List (List Datum)) (columns : List (List Sofar)) → AreTallied keys aggs rows groups columns → length out ≡ length groups → ((g : ℕ) → g < length groups → get_or out g [] ≡ map (finished_at g) columns) → out ≡ map (row_of keys aggs rows) groups
rows_are keys aggs rows groups out columns h same each =
    ext_get_or [] out (map (row_of keys aggs rows) groups) (same ∙ sym (length-map groups (row_of keys aggs rows)))
    (λ g below. let there : g < length groups = omega (arith, same) in each g there ∙ row_is keys aggs rows groups columns g h there ∙ sym (get_or-map (row_of keys aggs rows) groups g [] [] there))

-- columns of which the first so many meet something, and the next one does now
pub one_more_column : (P : ℕ → List Sofar → Type 0) (columns : List (List Sofar)) (j : ℕ) (now : List Sofar) → j < length columns → ((k : ℕ) → k < j → P k (get_or columns k [])) → P j now → (k : ℕ) → k < j + 1 → P k (get_or (set columns j now) k [])
one_more_column P columns j now inside before here k below = by (cases_lt k j)
  where
    by : (k < j) ⊎ (j ≤ k) → P k (get_or (set columns j now) k [])
    by (inl lt) = subst (P k) (sym (get_or-set_other columns j k now [] (λ e. absurd (omega (arith, e, lt))))) (before k lt)
    by (inr le) =
        let same : j ≡ k = omega (arith, le, below) in
        subst (λ i. P i (get_or (set columns j now) i [])) same (subst (P j) (sym (get_or-set_same columns j now [] inside)) here)

-- the tallies before a row is added, where its key may be new
pub AreTallied-if_new : (keys : List ℕ) (aggs : List Agg) (rows groups groups' : List (List Datum)) (key : List Datum) (is_new : Bool) (n : ℕ) (columns columns' : List (List Sofar)) → AreKeys keys rows groups → AllPairs (λ a b. a ≢ b) groups'
    → (is_new ≡ true → groups' ≡ groups ++ key ∷ []) × (is_new ≡ false → groups' ≡ groups) → length columns' ≡ length columns → (is_new ≡ false → columns' ≡ columns) → (is_new ≡ true → HaveStarted aggs key columns columns')
    → AreTallied keys aggs rows groups columns → AreBounded n columns → AreTallied keys aggs rows groups' columns' × AreBounded n columns'
AreTallied-if_new keys aggs rows groups groups' key is_new n columns columns' k distinct grown same old started h b = by is_new refl
  where
    by : (c : Bool) → is_new ≡ c → AreTallied keys aggs rows groups' columns' × AreBounded n columns'
    by true e = (
      AreTallied-started keys aggs rows groups groups' key columns columns' k (grown.0 e) (absent groups groups' key distinct (grown.0 e)) same (started e) h,
      AreBounded-started n aggs key columns columns' h.one_each same (started e) b,
    )
    by false e = (
      subst (λ cs. AreTallied keys aggs rows groups' cs) (sym (old e)) (subst (λ gs. AreTallied keys aggs rows gs columns) (sym (grown.1 e)) h),
      subst (AreBounded n) (sym (old e)) b,
    )
