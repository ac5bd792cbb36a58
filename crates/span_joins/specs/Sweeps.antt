-- What a sweep gives: for each first row the pairs that it makes with the others, in their order.
use Rattle.std.specs.Prelude.{ℕ, ◌≡◌, ◌+◌, ◌-◌, ◌<◌, ◌≤◌, Bool, cond, Option, Some, None, List, [], ◌∷◌, ◌++◌, map, length, slice_index_or, All}
use Rattle.std.specs.Option.{option_map}
use Rattle.std.specs.List.{flat_map}
use Rattle.std.specs.List.Sorted.{IsNonDecreasingBy}
use Rattle.span_token.specs.Extents.{Extent, extent_of}
use Rattle.row_values.specs.Datums.{Datum}
use Rattle.row_values.specs.Rows.{span_in}
use Rattle.span_joins.specs.Joins.{holds, joined_where, rank}
use Rattle.span_joins.specs.JoinLaws.{row_if}
use Rattle.span_joins.specs.Answers.{answer_of, is_back, is_pair, is_turned, number_of, test_by, IsWithin, MayMeet}
use Rattle.span_joins.specs.declared.side.Key.{Key}
use Rattle.span_joins.specs.declared.side.Side.{Side}
use Rattle.span_joins.specs.declared.side.Side.TheVariants.{InPlace, Sorted}
use Rattle.span_joins.specs.declared.rule.By.{By}
use Rattle.span_joins.specs.declared.way.Way.{Way}
use Rattle.span_joins.specs.declared.rule.Rule.{Rule}
use Rattle.span_joins.specs.declared.rule.Answer.{Answer}
use Rattle.span_joins.specs.declared.rule.Answer.TheVariants.{Before}

-- a row as a sweep meets it: the span in its column, where it has one, and its values
pub record Entry : Type 0 where
  pub span : Option Extent
  pub values : List Datum

abbrev pub no_entry : Entry
no_entry = record { span = None; values = [] }

-- a row where it stands
abbrev pub entry : ℕ → List Datum → Entry
entry column row = record { span = span_in column row; values = row }

abbrev pub entry_of : Key → Entry
entry_of key = record { span = option_map extent_of key.span; values = key.row.now }

-- the rows of a side, in the order in which a sweep meets them
abbrev pub entries_of : Side → List Entry
entries_of (InPlace rows column) = map (entry column) rows.now
entries_of (Sorted keys) = map entry_of keys.now

-- row i of a side
abbrev pub entry_at : Side → ℕ → Entry
entry_at side i = slice_index_or (entries_of side) i no_entry

-- rows in the order of their spans, those without a span first
abbrev pub AreInOrder : By → List Entry → Type 0
AreInOrder by entries = IsNonDecreasingBy (λ entry. rank (number_of by) entry.span) entries

-- the rank in an order of the row in front of row i
abbrev pub IsRankBefore : By → List Entry → ℕ → ℕ → Type 0
IsRankBefore by entries i last =
    (i ≡ 0 → last ≡ 0) × (0 < i → i ≤ length entries → last ≡ rank (number_of by) (slice_index_or entries (i - 1) no_entry).span)

-- a span ends at or after its begin
abbrev pub IsProper : Option Extent → Type 0
IsProper None = Unit {0}
IsProper (Some e) = e.begin ≤ e.end

-- a span that a rule may look at, where there is one
abbrev pub IsWithinAny : Rule → Option Extent → Type 0
IsWithinAny rule None = Unit {0}
IsWithinAny rule (Some e) = IsWithin rule e

-- the answer for a row that may have no span: such rows come first
abbrev pub answer_at : Rule → Extent → Option Extent → Answer
answer_at rule a (Some b) = answer_of rule a b
answer_at rule a None = Before

-- one row followed by the other
abbrev pub row_by : Bool → List Datum → List Datum → List Datum
row_by turned first other = cond turned (other ++ first) (first ++ other)

abbrev pub row_of : Rule → List Datum → List Datum → List Datum
row_of rule first other = row_by (is_turned rule) first other

-- the pair of a first span and its row with another row, where they are one
abbrev pub pair_at : Rule → Extent → List Datum → Entry → List (List Datum)
pair_at rule a first other = row_if (is_pair (answer_at rule a other.span)) (row_of rule first other.values)

-- the pairs of one first row
unfoldable pub pairs_with : Rule → Extent → List Datum → List Entry → List (List Datum)
pairs_with rule a first others = flat_map (pair_at rule a first) others

-- and of one that may have no span
abbrev pub pairs_from : Rule → Option Extent → List Datum → List Entry → List (List Datum)
pairs_from rule (Some a) first others = pairs_with rule a first others
pairs_from rule None first others = []

-- the pairs of all
unfoldable pub all_pairs : Rule → List Entry → List Entry → List (List Datum)
all_pairs rule firsts others = flat_map (λ first. pairs_from rule first.span first.values others) firsts

-- the first n of the others are too near
pub record AreBefore (rule : Rule) (a : Extent) (others : List Entry) (n : ℕ) : Type 0 where
  pub in_list : n ≤ length others
  pub each : (k : ℕ) (d : Entry) → k < n → answer_at rule a (slice_index_or others k d).span ≡ Before

-- each row of values and each of the others have so many columns together
abbrev pub HaveWidth : ℕ → List Datum → List Entry → Type 0
HaveWidth width first others = All (λ other. length first + length other.values ≡ width) others

-- the pair of two rows, where the test holds of their spans
abbrev pub pair_of : (Extent → Extent → Bool) → Bool → Entry → Entry → List (List Datum)
pair_of test turned first other = row_if (holds test first.span other.span) (row_by turned first.values other.values)

-- the pairs of two sides
abbrev pub pairs_of : (Extent → Extent → Bool) → Bool → List Entry → List Entry → List (List Datum)
pairs_of test turned firsts others = flat_map (λ first. flat_map (pair_of test turned first) others) firsts

-- the join that a way gives of first rows and others
abbrev pub joined_by : Way → List (List Datum) → ℕ → List (List Datum) → ℕ → List (List Datum)
joined_by way firsts fc others oc =
    cond (is_back way) (joined_where (λ a b. test_by way b a) others oc firsts fc) (joined_where (test_by way) firsts fc others oc)

-- a span that a way to join may look at, where there is one
abbrev pub MayMeetAny : Way → Option Extent → Type 0
MayMeetAny way None = Unit {0}
MayMeetAny way (Some e) = MayMeet way e
