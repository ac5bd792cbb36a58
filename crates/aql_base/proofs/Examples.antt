-- Rows of the definitions, computed.
use Rattle.std.proofs.Common.{◌≡◌, ℕ, [], ◌∷◌, refl, nat_cmp}
use Rattle.std.specs.Ordering.{on}
use Rattle.aql_base.specs.Bags.{count_of}
use Rattle.aql_base.specs.Sorting.{put_in_order, sorted_by}

counts_each_occurrence : count_of nat_cmp 1 (1 ∷ 2 ∷ 1 ∷ []) ≡ 2
counts_each_occurrence = refl

counts_nothing_of_another_value : count_of nat_cmp 3 (1 ∷ 2 ∷ 1 ∷ []) ≡ 0
counts_nothing_of_another_value = refl

sorted_keeps_equal_values : sorted_by nat_cmp (3 ∷ 1 ∷ 2 ∷ 1 ∷ []) ≡ 1 ∷ 1 ∷ 2 ∷ 3 ∷ []
unfolding sorted_by put_in_order
sorted_keeps_equal_values = refl

-- pairs by their first numbers alone
values_that_tie_keep_their_order : sorted_by (on (λ (p : ℕ × ℕ). p.0) nat_cmp) ((2, 7) ∷ (1, 9) ∷ (2, 5) ∷ []) ≡ (1, 9) ∷ (2, 7) ∷ (2, 5) ∷ []
unfolding sorted_by put_in_order
values_that_tie_keep_their_order = refl
