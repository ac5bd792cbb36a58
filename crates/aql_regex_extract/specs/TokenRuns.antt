-- Token-bounded patterns: for each token of an extent the longest run of tokens, from it on, in whose text the
-- whole-text form of the pattern has a match.
use Rattle.std.specs.Prelude.{◌≡◌, ℕ, zero, suc, ◌+◌, ◌-◌, ◌<◌, ◌≤◌, min, List, length, slice_index_or, Option, Some, None, option_map, IsTrue}
use Rattle.std.specs.List.{filter_map, range_with_len}
use Rattle.std.specs.Option.{option_or}
use Rattle.span_token.specs.Documents.{Doc, text_in}
use Rattle.span_token.specs.Extents.{Extent}
use Rattle.span_token.specs.SourceTokens.{tokens_in, run_extent}
use Rattle.aql_regex_extract.specs.Matches.{first_match, has_match, row_of}
use Rattle.aql_regex_extract.specs.Patterns.{whole_form}

-- the extent of `k` tokens from token `i` on
abbrev pub run_at : List Extent → ℕ → ℕ → Extent
run_at tokens i k = run_extent tokens i (i + k - 1)

-- ---- as properties

-- `k` tokens from `i` on are there, and the whole-text form has a match in their text
pub record MatchesRun (pattern : List ℕ) (d : Doc) (tokens : List Extent) (i k : ℕ) : Type 0 where
  pub there : i + k ≤ length tokens
  pub matching : IsTrue (has_match (whole_form pattern) (text_in d (run_at tokens i k)))

-- of the lengths from `low` to `high`, `k` is the greatest that matches
pub record IsLongest (matches : ℕ → Type 0) (low high k : ℕ) : Type 0 where
  pub at_least : low ≤ k
  pub at_most : k ≤ high
  pub matching : matches k
  pub none_longer : (j : ℕ) → k < j → j ≤ high → ¬ (matches j)

-- the row of the first match of the whole-text form in the text of an extent
abbrev pub whole_row : List ℕ → Doc → List ℕ → Extent → Option (List (Option Extent))
whole_row pattern d groups e = option_map (row_of d e groups) (first_match (whole_form pattern) (text_in d e))

-- the row is that of the longest run from token `i` on
pub record IsRunRow (pattern : List ℕ) (d : Doc) (tokens : List Extent) (low high : ℕ) (groups : List ℕ) (i : ℕ) (row : List (Option Extent)) : Type 0 where
  pub run : ℕ
  pub longest : IsLongest (MatchesRun pattern d tokens i) low high run
  pub row_is : whole_row pattern d groups (run_at tokens i run) ≡ Some row

-- what token `i` gives: the row of its longest run, or nothing where no length matches
abbrev pub GivesRun : List ℕ → Doc → List Extent → ℕ → ℕ → List ℕ → ℕ → Option (List (Option Extent)) → Type 0
GivesRun pattern d tokens low high groups i None = (k : ℕ) → low ≤ k → k ≤ high → ¬ (MatchesRun pattern d tokens i k)
GivesRun pattern d tokens low high groups i (Some row) = IsRunRow pattern d tokens low high groups i row

-- the rows are those that the tokens of the source give, in their order
pub record AreRunRows (pattern : List ℕ) (d : Doc) (source : Extent) (low high : ℕ) (groups : List ℕ) (rows : List (List (Option Extent))) : Type 0 where
  pub given : List (Option (List (Option Extent)))
  pub each_token : length given ≡ length (tokens_in d source)
  pub gives : (i : ℕ) → i < length (tokens_in d source) →
      GivesRun pattern d (tokens_in d source) low high groups i (slice_index_or given i None)
  pub rows_are : rows ≡ filter_map (λ row. row) given

-- ---- the same as a function

-- of the `n` lengths from `low` on, the row of the greatest that has one
abbrev pub longest_row : (ℕ → Option (List (Option Extent))) → ℕ → ℕ → Option (List (Option Extent))
longest_row row_at low zero = None
longest_row row_at low (suc n) = option_or (row_at (low + n)) (longest_row row_at low n)

-- the same of the runs from token `i` on
abbrev pub longest_run : List ℕ → Doc → List Extent → List ℕ → ℕ → ℕ → ℕ → Option (List (Option Extent))
longest_run pattern d tokens groups i = longest_row (λ k. whole_row pattern d groups (run_at tokens i k))

-- what token `i` gives: only so many lengths are tried as tokens are there
abbrev pub run_row : List ℕ → Doc → List Extent → ℕ → ℕ → List ℕ → ℕ → Option (List (Option Extent))
run_row pattern d tokens low high groups i =
    longest_run pattern d tokens groups i low (min high (length tokens - i) + 1 - low)

-- the rows of the tokens of a source: the one list that `AreRunRows`
unfoldable pub run_rows : List ℕ → Doc → Extent → ℕ → ℕ → List ℕ → List (List (Option Extent))
run_rows pattern d source low high groups =
    let tokens = tokens_in d source in
    filter_map (run_row pattern d tokens low high groups) (range_with_len 0 (length tokens))
