-- How an aggregate is added up row by row: an exact total, or the best value so far.
use Rattle.std.specs.Prelude.{ℕ, ℤ, pos, ◌+ℤ◌, neg_ℤ, ◌*◌, ◌^◌, ◌≡◌, ◌≢◌, ◌<◌, ◌≤◌, ◌≤ℤ◌, ◌↔◌, Contains, Bool, true, false, List, [], length, map, fold, slice_index_or, if◌then◌else◌}
use Rattle.std.specs.Int.{saturate_to_bits}
use Rattle.std.specs.List.{AllPairs}
use Rattle.std.specs.Ordering.{is_lt}
use Rattle.row_values.specs.Rows.{value_in}
use Rattle.row_values.specs.Datums.{Datum, null, int, datum_of, datum_cmp, is_null}
use Rattle.group_agg.specs.Groups.{key_of, group_of}
use Rattle.group_agg.specs.declared.agg.Agg.{Agg}
use Rattle.group_agg.specs.declared.agg.Agg.TheVariants.{Key, Count, CountOf, Sum, Min, Max}
use Rattle.group_agg.specs.declared.tally.Tally.{Tally}
use Rattle.group_agg.specs.declared.tally.Tally.TheVariants.{Total, Best}

-- what is known of a group so far
pub data Sofar : Type 0 where
  total : ℤ → Sofar
  best : Datum → Sofar

-- what a tally shows
abbrev pub sofar_of : Tally → Sofar
sofar_of (Total n) = total n
sofar_of (Best value) = best (datum_of value)

-- before the first row of the group with this key
abbrev pub start : Agg → List Datum → Sofar
start (Key k) key = best (slice_index_or key k null)
start Count key = total (pos 0)
start (CountOf column) key = total (pos 0)
start (Sum column) key = best null
start (Min column) key = best null
start (Max column) key = best null

-- with one more integer
abbrev pub plus : Sofar → ℤ → Sofar
plus (total n) m = total (n +ℤ m)
plus (best value) m = total m

-- with one more where the value isn't Null
abbrev pub plus_one_for : Sofar → Datum → Sofar
plus_one_for sofar value = if is_null value then sofar else plus sofar (pos 1)

-- with one more value, where it is an integer
abbrev pub plus_value : Sofar → Datum → Sofar
plus_value sofar (int n) = plus sofar n
plus_value sofar value = sofar

-- in value order, or from its end
abbrev pub comes_before : Bool → Datum → Datum → Bool
comes_before false a b = is_lt (datum_cmp a b)
comes_before true a b = is_lt (datum_cmp b a)

-- the better of two values: Null is worse than any other
abbrev pub better : Bool → Datum → Datum → Datum
better last best' value = if is_null value then best' else (if is_null best' then value else (if comes_before last value best' then value else best'))

-- with one more value, where it is better
abbrev pub improved : Bool → Sofar → Datum → Sofar
improved last (total n) value = total n
improved last (best best') value = best (better last best' value)

-- with one more row
abbrev pub added : Agg → Sofar → List Datum → Sofar
added (Key k) sofar row = sofar
added Count sofar row = plus sofar (pos 1)
added (CountOf column) sofar row = plus_one_for sofar (value_in row column)
added (Sum column) sofar row = plus_value sofar (value_in row column)
added (Min column) sofar row = improved false sofar (value_in row column)
added (Max column) sofar row = improved true sofar (value_in row column)

-- after all rows
abbrev pub tallied : Agg → List Datum → List (List Datum) → Sofar
tallied agg key rows = fold (added agg) (start agg key) rows

-- the value that is given
abbrev pub finished : Sofar → Datum
finished (total n) = int (saturate_to_bits 63 n)
finished (best value) = value

-- the value that the tally of a number gives
abbrev pub finished_at : ℕ → List Sofar → Datum
finished_at number tallies = finished (slice_index_or tallies number (best null))

-- the value of an aggregate for the group with a key
unfoldable pub aggregate_of : List ℕ → List (List Datum) → List Datum → Agg → Datum
aggregate_of keys rows key agg = finished (tallied agg key (group_of keys rows key))

-- the row of a group
abbrev pub row_of : List ℕ → List Agg → List (List Datum) → List Datum → List Datum
row_of keys aggs rows key = map (aggregate_of keys rows key) aggs

-- a total of n integers of 64 bits at most
abbrev pub IsBounded : ℕ → Sofar → Type 0
IsBounded n (total t) = (neg_ℤ (pos (n * 2 ^ 63)) ≤ℤ t) × (t ≤ℤ pos (n * 2 ^ 63))
IsBounded n (best value) = Unit {0}

-- group_keys are the keys of the rows, each once
pub record AreKeys (keys : List ℕ) (rows group_keys : List (List Datum)) : Type 0 where
  pub distinct : AllPairs (λ a b. a ≢ b) group_keys
  pub exactly : (key : List Datum) → Contains group_keys key ↔ Contains (map (key_of keys) rows) key
  pub few : length group_keys ≤ length rows

-- the tallies of the groups with these keys for one aggregate
abbrev pub tallies_of : Agg → List ℕ → List (List Datum) → List (List Datum) → List Sofar
tallies_of agg keys rows group_keys = map (λ key. tallied agg key (group_of keys rows key)) group_keys

-- each column has the tallies of the groups for one aggregate
pub record AreTallied (keys : List ℕ) (aggs : List Agg) (rows group_keys : List (List Datum)) (columns : List (List Sofar)) : Type 0 where
  pub one_each : length columns ≡ length aggs
  pub tallies : (j : ℕ) → j < length aggs → slice_index_or columns j [] ≡ tallies_of (slice_index_or aggs j Count) keys rows group_keys
