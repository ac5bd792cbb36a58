-- Rows of the definitions, computed.
use Rattle.std.proofs.Common.{◌≡◌, ℕ, List, [], ◌∷◌, Option, Some, None, pos, refl}
use Rattle.aql_base.specs.Sorting.{put_in_order, sorted_by}
use Rattle.row_values.specs.Datums.{Datum, null, span}
use Rattle.span_token.specs.Extents.{Extent}
use Rattle.span_token.specs.Relations.{does_follow}
use Rattle.span_sets.specs.Blocks.{distinct_of, blocks_of}
use Rattle.span_sets.specs.Consolidation.{in_row_order}
use Rattle.span_sets.specs.KeptRows.{kept_numbers, consolidated_by, consolidated}
use Rattle.span_sets.specs.declared.policy.Policy.TheVariants.{ContainedWithin, NotContainedWithin, ContainsButNotEqual, ExactMatch, LeftToRight}

abbrev from : ℕ → ℕ → Extent
from b e = record { begin = b; end = e }

-- the target of a row of one value
abbrev own : List Datum → Option Extent
own [] = None
own (span e ∷ row) = Some e
own (value ∷ row) = None

the_outermost_stays : kept_numbers ContainedWithin (Some (from 0 5) ∷ Some (from 1 3) ∷ []) ≡ 0 ∷ []
unfolding kept_numbers
the_outermost_stays = refl

the_innermost_stays : kept_numbers NotContainedWithin (Some (from 0 5) ∷ Some (from 1 3) ∷ []) ≡ 1 ∷ []
unfolding kept_numbers
the_innermost_stays = refl

equal_ones_stay_together : kept_numbers ContainsButNotEqual (Some (from 0 5) ∷ Some (from 0 5) ∷ Some (from 1 3) ∷ []) ≡ 0 ∷ 1 ∷ []
unfolding kept_numbers
equal_ones_stay_together = refl

the_first_of_equal_ones_stays : kept_numbers ExactMatch (Some (from 0 5) ∷ Some (from 0 5) ∷ []) ≡ 0 ∷ []
unfolding kept_numbers
the_first_of_equal_ones_stays = refl

from_the_left_the_longest_stays : kept_numbers LeftToRight (Some (from 0 3) ∷ Some (from 0 5) ∷ []) ≡ 1 ∷ []
unfolding kept_numbers
from_the_left_the_longest_stays = refl

null_stays : kept_numbers ContainedWithin (None ∷ Some (from 0 5) ∷ []) ≡ 0 ∷ 1 ∷ []
unfolding kept_numbers
null_stays = refl

rows_come_in_row_order : consolidated ExactMatch own ((span (from 2 3) ∷ []) ∷ (null ∷ []) ∷ (span (from 2 3) ∷ []) ∷ []) ≡ (null ∷ []) ∷ (span (from 2 3) ∷ []) ∷ []
unfolding consolidated_by kept_numbers in_row_order sorted_by put_in_order
rows_come_in_row_order = refl

distinct_spans_rise : distinct_of (from 4 5 ∷ from 0 1 ∷ from 4 5 ∷ []) ≡ from 0 1 ∷ from 4 5 ∷ []
unfolding sorted_by put_in_order
distinct_spans_rise = refl

a_run_of_two_makes_a_block : blocks_of (λ a b. does_follow a b (pos 0) (pos 1)) 2 2 (from 2 3 ∷ from 0 1 ∷ []) ≡ from 0 3 ∷ []
unfolding blocks_of sorted_by put_in_order
a_run_of_two_makes_a_block = refl

a_single_span_is_a_run : blocks_of (λ a b. does_follow a b (pos 0) (pos 1)) 0 1 (from 2 3 ∷ from 0 1 ∷ []) ≡ from 0 1 ∷ from 2 3 ∷ []
unfolding blocks_of sorted_by put_in_order
a_single_span_is_a_run = refl

a_wide_gap_parts : blocks_of (λ a b. does_follow a b (pos 0) (pos 1)) 2 9 (from 8 9 ∷ from 0 1 ∷ []) ≡ []
unfolding blocks_of sorted_by put_in_order
a_wide_gap_parts = refl
