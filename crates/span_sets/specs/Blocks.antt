-- Blocks: runs of neighbours among the distinct spans of a column.
use Rattle.std.specs.Prelude.{ℕ, zero, suc, ℤ, ◌+◌, ◌-◌, ◌≡◌, ◌<◌, ◌≤◌, nat_le, ◌↔◌, ◌⊎◌, Bool, true, false, ◌&&◌, List, [], ◌++◌, length, map, filter, Contains}
use Rattle.std.specs.List.{AllPairs, dedup, list_all, range_with_len}
use Rattle.std.specs.Ordering.{eq_by_cmp}
use Rattle.aql_base.specs.Sorting.{sorted_by}
use Rattle.span_token.specs.Documents.{Doc, characters}
use Rattle.span_token.specs.Extents.{Extent, nth_extent}
use Rattle.span_token.specs.Relations.{Follows, FollowsTok, does_follow, does_follow_tok}
use Rattle.span_token.specs.SourceTokens.{run_extent}
use Rattle.span_token.specs.SpanOrder.{AreInOrder, extent_cmp}
use Rattle.span_token.specs.Tokens.{tokens_of}

-- b begins at or after the end of a, with from low to high characters between, or tokens
abbrev pub IsNeighbour : Doc → Bool → ℤ → ℤ → Extent → Extent → Type 0
IsNeighbour doc false low high a b = Follows a b low high
IsNeighbour doc true low high a b = FollowsTok (tokens_of (characters doc)) a b low high

-- the distinct spans of a list, by begin and then by end
abbrev pub AreDistinct : List Extent → List Extent → Type 0
AreDistinct spans distinct = AreInOrder (Contains spans) distinct

-- spans i to j of a list are a run: from low to high of them, each a neighbour of the one before
pub record IsRun (IsNext : Extent → Extent → Type 0) (low high : ℕ) (spans : List Extent) (i j : ℕ) : Type 0 where
  pub ordered : i ≤ j
  pub there : j < length spans
  pub at_least : low ≤ (j - i) + 1
  pub at_most : (j - i) + 1 ≤ high
  pub neighbours : (k : ℕ) → i ≤ k → k < j → IsNext (nth_extent spans k) (nth_extent spans (k + 1))

-- the blocks of a list of spans that rises: one for each run, by its first and then its last span
pub record AreBlocksOf (IsNext : Extent → Extent → Type 0) (low high : ℕ) (spans blocks : List Extent) : Type 0 where
  pub runs : List (ℕ × ℕ)
  pub rising : AllPairs (λ p q. (p.0 < q.0) ⊎ ((p.0 ≡ q.0) × (p.1 < q.1))) runs
  pub exactly : (i j : ℕ) → Contains runs (i, j) ↔ IsRun IsNext low high spans i j
  pub blocks_are : blocks ≡ map (λ r. run_extent spans r.0 r.1) runs

-- the blocks of any list of spans: those of its distinct ones
pub record AreBlocks (IsNext : Extent → Extent → Type 0) (low high : ℕ) (spans blocks : List Extent) : Type 0 where
  pub distinct : List Extent
  pub are_distinct : AreDistinct spans distinct
  pub are_blocks : AreBlocksOf IsNext low high distinct blocks

-- `IsNeighbour` as a test
abbrev pub is_neighbour : Doc → Bool → ℤ → ℤ → Extent → Extent → Bool
is_neighbour doc false low high a b = does_follow a b low high
is_neighbour doc true low high a b = does_follow_tok (tokens_of (characters doc)) a b low high

-- `IsRun` as a test, of spans i and j of the list
abbrev pub is_run : (Extent → Extent → Bool) → ℕ → ℕ → List Extent → ℕ → ℕ → Bool
is_run is_next low high spans i j =
    nat_le i j && (nat_le low ((j - i) + 1) && (nat_le ((j - i) + 1) high && list_all (λ k. is_next (nth_extent spans k) (nth_extent spans (k + 1))) (range_with_len i (j - i))))

-- the last spans of the runs that begin with span i
abbrev pub ends_of : (Extent → Extent → Bool) → ℕ → ℕ → List Extent → ℕ → List ℕ
ends_of is_next low high spans i = filter (is_run is_next low high spans i) (range_with_len 0 (length spans))

-- the blocks of the runs that begin before span n
abbrev pub blocks_before : (Extent → Extent → Bool) → ℕ → ℕ → List Extent → ℕ → List Extent
blocks_before is_next low high spans zero = []
blocks_before is_next low high spans (suc i) = blocks_before is_next low high spans i ++ map (run_extent spans i) (ends_of is_next low high spans i)

-- the distinct spans of a list, by begin and then by end
abbrev pub distinct_of : List Extent → List Extent
distinct_of spans = dedup (eq_by_cmp extent_cmp) (sorted_by extent_cmp spans)

-- the blocks of a list of spans
unfoldable pub blocks_of : (Extent → Extent → Bool) → ℕ → ℕ → List Extent → List Extent
blocks_of is_next low high spans = blocks_before is_next low high (distinct_of spans) (length (distinct_of spans))
