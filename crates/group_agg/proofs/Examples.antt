-- Rows of the definitions, computed.
use Rattle.std.proofs.Common.{◌≡◌, ℤ, pos, negsuc, List, [], ◌∷◌, Some, None, refl}
use Rattle.aql_base.specs.Sorting.{put_in_order, sorted_by}
use Rattle.row_values.specs.Datums.{Datum, null, int}
use Rattle.group_agg.specs.Groups.{group_of, values_of, total_of, sum_of, keys_in, grouped}
use Rattle.group_agg.specs.Limits.{limited}
use Rattle.group_agg.specs.declared.agg.Agg.TheVariants.{Key, Count, CountOf, Sum, Min, Max}

-- a row of one integer, and one of two
abbrev one : ℤ → List Datum
one a = int a ∷ []

abbrev two : ℤ → ℤ → List Datum
two a b = int a ∷ int b ∷ []

a_group_has_the_rows_with_its_key : group_of (0 ∷ []) (two (pos 1) (pos 5) ∷ two (pos 2) (pos 6) ∷ two (pos 1) (pos 7) ∷ []) (one (pos 1)) ≡ two (pos 1) (pos 5) ∷ two (pos 1) (pos 7) ∷ []
a_group_has_the_rows_with_its_key = refl

null_is_no_value : values_of 0 (one (pos 1) ∷ (null ∷ []) ∷ []) ≡ one (pos 1)
null_is_no_value = refl

parts_may_cancel : total_of (pos 7 ∷ negsuc 6 ∷ pos 2 ∷ []) ≡ pos 2
parts_may_cancel = refl

a_sum_of_nothing_is_null : sum_of [] ≡ null
a_sum_of_nothing_is_null = refl

a_sum_out_of_range_is_its_nearer_end : sum_of (pos 9223372036854775807 ∷ pos 1 ∷ []) ≡ int (pos 9223372036854775807)
a_sum_out_of_range_is_its_nearer_end = refl

each_key_comes_once : keys_in (0 ∷ []) (one (pos 2) ∷ (null ∷ []) ∷ one (pos 2) ∷ (null ∷ []) ∷ []) ≡ (null ∷ []) ∷ one (pos 2) ∷ []
unfolding sorted_by put_in_order
each_key_comes_once = refl

equal_keys_make_one_row : grouped (0 ∷ []) (Key 0 ∷ Count ∷ []) (one (pos 7) ∷ one (pos 8) ∷ one (pos 7) ∷ []) ≡ two (pos 7) (pos 2) ∷ two (pos 8) (pos 1) ∷ []
unfolding grouped sorted_by put_in_order
equal_keys_make_one_row = refl

rows_are_counted_with_null_and_values_without : grouped [] (Count ∷ CountOf 0 ∷ []) (one (pos 7) ∷ (null ∷ []) ∷ []) ≡ two (pos 2) (pos 1) ∷ []
unfolding grouped sorted_by put_in_order
rows_are_counted_with_null_and_values_without = refl

the_least_and_the_greatest_pass_over_null : grouped [] (Min 0 ∷ Max 0 ∷ Sum 0 ∷ []) ((null ∷ []) ∷ one (pos 3) ∷ one (pos 5) ∷ []) ≡ (int (pos 3) ∷ int (pos 5) ∷ int (pos 8) ∷ []) ∷ []
unfolding grouped sorted_by put_in_order
the_least_and_the_greatest_pass_over_null = refl

no_rows_make_no_group : grouped [] (Count ∷ []) [] ≡ []
unfolding grouped sorted_by put_in_order
no_rows_make_no_group = refl

a_tie_goes_by_row_order : limited (0 ∷ []) (Some 1) (two (pos 7) (pos 8) ∷ two (pos 8) (pos 1) ∷ two (pos 7) (pos 2) ∷ []) ≡ two (pos 7) (pos 2) ∷ []
unfolding limited sorted_by put_in_order
a_tie_goes_by_row_order = refl

without_a_limit_all_rows_stay : limited (0 ∷ []) None (one (pos 2) ∷ (null ∷ []) ∷ []) ≡ (null ∷ []) ∷ one (pos 2) ∷ []
unfolding limited sorted_by put_in_order
without_a_limit_all_rows_stay = refl
