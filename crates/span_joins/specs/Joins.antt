-- The join of two lists of rows by a test of the spans in one column of each.
use Rattle.std.specs.Prelude.{ℕ, ◌+◌, ◌≡◌, ◌↔◌, Bool, IsTrue, false, Option, Some, None, List, ◌++◌, map, length}
use Rattle.std.specs.List.{filter, flat_map}
use Rattle.std.specs.List.Sorted.{IsNonDecreasingBy}
use Rattle.aql_base.specs.Bags.{SameBag}
use Rattle.span_token.specs.Extents.{Extent}
use Rattle.row_values.specs.Datums.{Datum}
use Rattle.row_values.specs.Rows.{RowList, span_in}

-- the test holds of two spans, of which neither is missing
abbrev pub holds : (Extent → Extent → Bool) → Option Extent → Option Extent → Bool
holds test (Some a) (Some b) = test a b
holds test (Some a) None = false
holds test None b = false

-- each left row with each right row
unfoldable pub pairs : List (List Datum) → List (List Datum) → List (List Datum × List Datum)
pairs left right = flat_map (λ l. map (λ r. (l, r)) right) left

-- the left row followed by the right row, for each pair whose spans pass the test
unfoldable pub joined_where : (Extent → Extent → Bool) → List (List Datum) → ℕ → List (List Datum) → ℕ → List (List Datum)
joined_where test left lc right rc =
    map (λ p. p.0 ++ p.1) (filter (λ p. holds test (span_in lc p.0) (span_in rc p.1)) (pairs left right))

-- a test that holds exactly where P does picks the pairs, and out has their rows in some order
pub record IsJoin (P : Extent → Extent → Type 0) (left : RowList) (lc : ℕ) (right : RowList) (rc : ℕ) (out : RowList) : Type 0 where
  pub test : Extent → Extent → Bool
  pub decides : (a b : Extent) → IsTrue (test a b) ↔ P a b
  pub rows_are : SameBag out.rows (joined_where test left.rows lc right.rows rc)
  pub width_is : out.width ≡ left.width + right.width

-- where a span stands in the order by a number of it; what has no span comes first
abbrev pub rank : (Extent → ℕ) → Option Extent → ℕ
rank number None = 0
rank number (Some e) = number e + 1

-- the rows rise by a number of the spans in a column, those without a span first
abbrev pub DoRise : (Extent → ℕ) → ℕ → List (List Datum) → Type 0
DoRise number column rows = IsNonDecreasingBy (λ row. rank number (span_in column row)) rows

-- the rows in front rise by the ends of their spans, and those behind by the begins
abbrev pub RiseTogether : List (List Datum) → ℕ → List (List Datum) → ℕ → Type 0
RiseTogether front fc behind bc = DoRise (λ e. e.end) fc front × DoRise (λ e. e.begin) bc behind

-- the most tests of a join by a gap of rows in order: the rows of both sides and of the result
abbrev pub most_tests : (Extent → Extent → Bool) → List (List Datum) → ℕ → List (List Datum) → ℕ → ℕ
most_tests test left lc right rc = length left + length right + length (joined_where test left lc right rc)
