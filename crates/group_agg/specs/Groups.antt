-- Groups: the rows that have equal values in the key columns, and what is told of each group.
use Rattle.std.specs.Prelude.{ℕ, ℤ, pos, ◌+ℤ◌, ◌≡◌, ◌≢◌, ◌<◌, ◌↔◌, ◌⊎◌, Bool, false, not, List, [], ◌∷◌, length, map, fold, filter, slice_index_or, All, Contains}
use Rattle.std.specs.Int.{saturate_to_bits}
use Rattle.std.specs.List.{AllPairs, AllZip, filter_map, dedup}
use Rattle.std.specs.Ordering.{is_lt, eq_by_cmp, flip_args}
use Rattle.std.specs.declared.cmp.Ordering.{Ordering}
use Rattle.aql_base.specs.Bags.{SameBag}
use Rattle.aql_base.specs.Sorting.{sorted_by}
use Rattle.row_values.specs.Datums.{Datum, null, int, datum_cmp, is_null, integer_of}
use Rattle.row_values.specs.Rows.{row_cmp, value_in}
use Rattle.group_agg.specs.declared.agg.Agg.{Agg}
use Rattle.group_agg.specs.declared.agg.Agg.TheVariants.{Key, Count, CountOf, Sum, Min, Max}

-- the values of a row in the key columns
abbrev pub key_of : List ℕ → List Datum → List Datum
key_of keys row = map (value_in row) keys

-- the rows whose values in the key columns are these; Null equals Null
abbrev pub group_of : List ℕ → List (List Datum) → List Datum → List (List Datum)
group_of keys rows key = filter (λ row. eq_by_cmp row_cmp (key_of keys row) key) rows

-- the values of a column that aren't Null
abbrev pub values_of : ℕ → List (List Datum) → List Datum
values_of column rows = filter (λ value. not (is_null value)) (map (λ row. value_in row column) rows)

-- the integers of a column
abbrev pub integers_of : ℕ → List (List Datum) → List ℤ
integers_of column rows = filter_map integer_of (map (λ row. value_in row column) rows)

-- the exact total
abbrev pub total_of : List ℤ → ℤ
total_of ns = fold ◌+ℤ◌ (pos 0) ns

-- the value is the total of the integers, or the nearer end of 64 bits where it is out of range; Null where there are none
abbrev pub IsSum : List ℤ → Datum → Type 0
IsSum [] value = value ≡ null
IsSum (n ∷ ns) value = value ≡ int (saturate_to_bits 63 (total_of (n ∷ ns)))

-- the value is one of the values, and none of them comes before it; Null where there are none
abbrev pub IsFirst : (Datum → Datum → Bool) → List Datum → Datum → Type 0
IsFirst before [] value = value ≡ null
IsFirst before (x ∷ xs) value = Contains (x ∷ xs) value × All (λ other. before other value ≡ false) (x ∷ xs)

-- the least of the values, Null where there are none
abbrev pub IsLeast : List Datum → Datum → Type 0
IsLeast = IsFirst (λ a b. is_lt (datum_cmp a b))

-- the greatest of the values, Null where there are none
abbrev pub IsGreatest : List Datum → Datum → Type 0
IsGreatest = IsFirst (λ a b. is_lt (datum_cmp b a))

-- the value of an aggregate for a group with this key
abbrev pub IsAggregate : List Datum → List (List Datum) → Agg → Datum → Type 0
IsAggregate key group (Key k) value = value ≡ slice_index_or key k null
IsAggregate key group Count value = value ≡ int (pos (length group))
IsAggregate key group (CountOf column) value = value ≡ int (pos (length (values_of column group)))
IsAggregate key group (Sum column) value = IsSum (integers_of column group) value
IsAggregate key group (Min column) value = IsLeast (values_of column group) value
IsAggregate key group (Max column) value = IsGreatest (values_of column group) value

-- the row of a group: the value of each aggregate
abbrev pub IsGroupRow : List ℕ → List Agg → List (List Datum) → List Datum → List Datum → Type 0
IsGroupRow keys aggs rows key row = AllZip (IsAggregate key (group_of keys rows key)) aggs row

-- out has one row for each set of rows with equal keys, in any order
pub record IsGrouped (keys : List ℕ) (aggs : List Agg) (rows out : List (List Datum)) : Type 0 where
  -- the keys of the groups, each once
  pub group_keys : List (List Datum)
  pub distinct : AllPairs (λ a b. a ≢ b) group_keys
  pub exactly : (key : List Datum) → Contains group_keys key ↔ Contains (map (key_of keys) rows) key
  pub row_of : List Datum → List Datum
  pub each_row : All (λ key. IsGroupRow keys aggs rows key (row_of key)) group_keys
  pub same_bag : SameBag (map row_of group_keys) out

-- the value is Null, or stands in some column of some row
abbrev pub StandsIn : List (List Datum) → Datum → Type 0
StandsIn rows value = (value ≡ null) ⊎ ((row : List Datum) × (column : ℕ) × Contains rows row × (value_in row column ≡ value))

-- the value of an aggregate that neither counts nor adds up stands in the rows
abbrev pub IsFromRows : List (List Datum) → Agg → Datum → Type 0
IsFromRows rows (Key k) value = StandsIn rows value
IsFromRows rows Count value = Unit {0}
IsFromRows rows (CountOf column) value = Unit {0}
IsFromRows rows (Sum column) value = Unit {0}
IsFromRows rows (Min column) value = StandsIn rows value
IsFromRows rows (Max column) value = StandsIn rows value

-- the total of the integers, or the nearer end of 64 bits where it is out of range; Null where there are none
abbrev pub sum_of : List ℤ → Datum
sum_of [] = null
sum_of (n ∷ ns) = int (saturate_to_bits 63 (total_of (n ∷ ns)))

-- the first of the values in an order, Null where there are none
abbrev pub first_in : (Datum → Datum → Ordering) → List Datum → Datum
first_in cmp values = slice_index_or (sorted_by cmp values) 0 null

-- the value of an aggregate for a group with this key
abbrev pub aggregate : List Datum → List (List Datum) → Agg → Datum
aggregate key group (Key k) = slice_index_or key k null
aggregate key group Count = int (pos (length group))
aggregate key group (CountOf column) = int (pos (length (values_of column group)))
aggregate key group (Sum column) = sum_of (integers_of column group)
aggregate key group (Min column) = first_in datum_cmp (values_of column group)
aggregate key group (Max column) = first_in (flip_args datum_cmp) (values_of column group)

-- the keys of the rows, each once, in row order
abbrev pub keys_in : List ℕ → List (List Datum) → List (List Datum)
keys_in keys rows = dedup (eq_by_cmp row_cmp) (sorted_by row_cmp (map (key_of keys) rows))

-- one row for each set of rows with equal keys, in the order of the keys
unfoldable pub grouped : List ℕ → List Agg → List (List Datum) → List (List Datum)
grouped keys aggs rows = map (λ key. map (aggregate key (group_of keys rows key)) aggs) (keys_in keys rows)

-- where the aggregate is Key k, there are more keys than k
abbrev pub HasKey : ℕ → Agg → Type 0
HasKey keys (Key k) = k < keys
HasKey keys agg = Unit {0}

-- the aggregate's column, where it has one, is below the width
abbrev pub HasColumn : ℕ → Agg → Type 0
HasColumn width (Key k) = Unit {0}
HasColumn width Count = Unit {0}
HasColumn width (CountOf column) = column < width
HasColumn width (Sum column) = column < width
HasColumn width (Min column) = column < width
HasColumn width (Max column) = column < width
