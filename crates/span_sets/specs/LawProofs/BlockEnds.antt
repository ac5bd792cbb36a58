-- Blocks end where spans end.
use Rattle.std.proofs.Common.{ℕ, zero, suc, ◌<◌, Bool, List, length, map, arith, All}
use Rattle.std.specs.Cmp.{IsTotalOrder}
use Rattle.std.specs.List.{range_with_len}
use Rattle.std.specs.Ordering.{eq_by_cmp}
use Rattle.std.proofs.lemmas.Cmp.{nat_cmp_total, on_total, then_total}
use Rattle.std.proofs.lemmas.List.Elements.{All-nil, All-append, All-map, All-filter, All-contains_itself}
use Rattle.std.proofs.lemmas.List.Filters.{All-dedup}
use Rattle.std.proofs.lemmas.List.Sorted.{All-permutation}
use Rattle.aql_base.specs.Sorting.{sorted_by}
use Rattle.aql_base.specs.SortingLaws.{SameBag-sorted_by}
use Rattle.span_token.specs.Extents.{Extent}
use Rattle.span_token.specs.SourceTokens.{run_extent}
use Rattle.span_token.specs.SpanOrder.{extent_cmp}
use Rattle.span_token.specs.RisingLists.{in_range}
use Rattle.span_sets.specs.Blocks.{is_run, ends_of, blocks_before, distinct_of, blocks_of}

in_order : IsTotalOrder extent_cmp
in_order = then_total (on_total (λ (e : Extent). e.begin) nat_cmp_total) (on_total (λ (e : Extent). e.end) nat_cmp_total)

module _ (P : ℕ → Type 0) where
  abbrev EndsWell : Extent → Type 0
  EndsWell e = P e.end

  distinct_ends : (spans : List Extent) → All EndsWell spans → All EndsWell (distinct_of spans)
  distinct_ends spans all =
      All-dedup (eq_by_cmp extent_cmp) EndsWell (sorted_by extent_cmp spans)
      (All-permutation EndsWell spans (sorted_by extent_cmp spans) (SameBag-sorted_by in_order spans) all)

  module _ (is_next : Extent → Extent → Bool) (low high : ℕ) where
    runs_there : (spans : List Extent) (i : ℕ) → All (λ j. j < length spans) (ends_of is_next low high spans i)
    runs_there spans i =
        All-filter (is_run is_next low high spans i) (λ j. j < length spans) (range_with_len 0 (length spans))
        (λ k d below. let there = in_range 0 (length spans) _ (All-contains_itself (range_with_len 0 (length spans)) k d below) in omega (arith, there))

    before_ends : (spans : List Extent) → All EndsWell spans → (n : ℕ) → All EndsWell (blocks_before is_next low high spans n)
    before_ends spans all zero = All-nil EndsWell
    before_ends spans all (suc i) =
        All-append EndsWell (blocks_before is_next low high spans i) (map (run_extent spans i) (ends_of is_next low high spans i))
        (before_ends spans all i)
        (All-map EndsWell (run_extent spans i) (ends_of is_next low high spans i)
        (λ k d below. all _ (record { begin = 0; end = 0 }) (runs_there spans i k d below)))

    -- each block ends where one of the spans ends
    pub ends-blocks_of : (spans : List Extent) → All EndsWell spans → All EndsWell (blocks_of is_next low high spans)
    unfolding blocks_of
    ends-blocks_of spans all = before_ends (distinct_of spans) (distinct_ends spans all) (length (distinct_of spans))
