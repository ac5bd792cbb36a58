-- What a test of one span against another tells a sweep that goes through the other spans by their begins.
use Rattle.std.specs.Prelude.{ℕ, ◌≡◌, ◌+◌, ◌-◌, Bool, true, false, cond, ◌&&◌, not, nat_lt, nat_le, ℤ, pos, int_le}
use Rattle.span_token.specs.Extents.{Extent}
use Rattle.span_token.specs.Documents.{LiesIn, characters}
use Rattle.span_token.specs.Tokens.{tokens_of}
use Rattle.span_token.specs.Relations.{do_overlap, does_contain, does_follow, does_follow_tok, tokens_between}
use Rattle.span_joins.specs.declared.rule.Rule.{Rule}
use Rattle.span_joins.specs.declared.rule.Rule.TheVariants.{Gap, Tokens, Contains, OverlapsFromLeft, OverlapsFromRight}
use Rattle.span_joins.specs.declared.rule.Front.{Front}
use Rattle.span_joins.specs.declared.rule.Front.TheVariants.{First, Other}
use Rattle.span_joins.specs.declared.rule.By.{By}
use Rattle.span_joins.specs.declared.rule.By.TheVariants.{Begin, BeginEmptyFirst, End}
use Rattle.span_joins.specs.declared.way.Way.{Way}
use Rattle.span_joins.specs.declared.way.Way.TheVariants.{Swept, Met}
use Rattle.span_joins.specs.declared.rule.Answer.{Answer}
use Rattle.span_joins.specs.declared.rule.Answer.TheVariants.{Before, Pair, Neither, Beyond}

-- by how much lies between: too little, within the bounds, or too much
abbrev pub by_gap : ℤ → ℤ → ℕ → Answer
by_gap low high n = cond (int_le low (pos n)) (cond (int_le (pos n) high) Pair Beyond) Before

-- the same where the other span begins at or after the end, and else too little
abbrev pub by_count : (ℕ → ℕ → ℕ) → ℤ → ℤ → Extent → Extent → Answer
by_count count low high a b = cond (nat_le a.end b.begin) (by_gap low high (count a.end b.begin)) Before

-- by where the other span begins, and then by a test
abbrev pub by_begin : Bool → Bool → Bool → Answer
by_begin before beyond pair = cond before Before (cond beyond Beyond (cond pair Pair Neither))

-- a span's number by its begin, and of spans of one begin an empty one first
abbrev pub begin_empty_first : Extent → ℕ
begin_empty_first e = e.begin + e.begin + cond (nat_lt e.begin e.end) 1 0

-- the answer of a rule
abbrev pub answer_of : Rule → Extent → Extent → Answer
answer_of (Gap low high front) a b = by_count (λ from to. to - from) low high a b
answer_of (Tokens doc low high front) a b = by_count (tokens_between (tokens_of (characters doc.now))) low high a b
answer_of (Contains front) a b = by_begin (nat_lt b.begin a.begin) (nat_lt (a.end + a.end) (begin_empty_first b)) (does_contain a b)
answer_of OverlapsFromLeft a b =
    by_begin (nat_lt b.begin a.begin) (nat_lt a.begin b.begin && nat_le a.end b.begin) (do_overlap a b)
answer_of OverlapsFromRight a b = by_begin (nat_le b.begin a.begin) (nat_le a.end b.begin) (do_overlap a b)

-- the order of the first spans of a sweep
abbrev pub order_of : Rule → By
order_of (Gap low high front) = End
order_of (Tokens doc low high front) = End
order_of (Contains front) = Begin
order_of OverlapsFromLeft = Begin
order_of OverlapsFromRight = Begin

-- the order of the others
abbrev pub other_order_of : Rule → By
other_order_of (Gap low high front) = Begin
other_order_of (Tokens doc low high front) = Begin
other_order_of (Contains front) = BeginEmptyFirst
other_order_of OverlapsFromLeft = Begin
other_order_of OverlapsFromRight = Begin

-- the number of a span that an order goes by
abbrev pub number_of : By → Extent → ℕ
number_of Begin e = e.begin
number_of BeginEmptyFirst e = begin_empty_first e
number_of End e = e.end

-- the number that the first spans of a sweep rise by
abbrev pub first_number : Rule → Extent → ℕ
first_number rule a = number_of (order_of rule) a

-- each span that is neither too near nor too far makes a pair
abbrev pub is_exact : Rule → Bool
is_exact (Gap low high front) = true
is_exact (Tokens doc low high front) = true
is_exact (Contains front) = false
is_exact OverlapsFromLeft = false
is_exact OverlapsFromRight = false

abbrev pub is_other : Front → Bool
is_other First = false
is_other Other = true

-- the row of the first span stands behind the other in a pair
abbrev pub is_turned : Rule → Bool
is_turned (Gap low high front) = is_other front
is_turned (Tokens doc low high front) = is_other front
is_turned (Contains front) = is_other front
is_turned OverlapsFromLeft = false
is_turned OverlapsFromRight = true

-- a span that a rule may look at
abbrev pub IsWithin : Rule → Extent → Type 0
IsWithin (Gap low high front) a = Unit {0}
IsWithin (Tokens doc low high front) a = LiesIn a doc.now
IsWithin (Contains front) a = Unit {0}
IsWithin OverlapsFromLeft a = Unit {0}
IsWithin OverlapsFromRight a = Unit {0}

abbrev pub is_pair : Answer → Bool
is_pair Before = false
is_pair Pair = true
is_pair Neither = false
is_pair Beyond = false

-- the test that a rule makes
abbrev pub test_of : Rule → Extent → Extent → Bool
test_of (Gap low high front) a b = does_follow a b low high
test_of (Tokens doc low high front) a b = does_follow_tok (tokens_of (characters doc.now)) a b low high
test_of (Contains front) a b = does_contain a b
test_of OverlapsFromLeft a b = not (nat_lt b.begin a.begin) && do_overlap a b
test_of OverlapsFromRight a b = not (nat_le b.begin a.begin) && do_overlap a b

-- the test of a way to join
abbrev pub test_by : Way → Extent → Extent → Bool
test_by (Swept rule) = test_of rule
test_by Met = do_overlap

-- the order of its first rows
abbrev pub order_by : Way → By
order_by (Swept rule) = order_of rule
order_by Met = Begin

-- and of the others
abbrev pub other_order_by : Way → By
other_order_by (Swept rule) = other_order_of rule
other_order_by Met = Begin

-- its tests are bounded
abbrev pub is_bounded : Way → Bool
is_bounded (Swept rule) = is_exact rule
is_bounded Met = false

-- a first row stands behind the other in a pair
abbrev pub is_back : Way → Bool
is_back (Swept rule) = is_turned rule
is_back Met = false

-- a span that it may look at
abbrev pub MayMeet : Way → Extent → Type 0
MayMeet (Swept rule) e = IsWithin rule e
MayMeet Met e = Unit {0}
