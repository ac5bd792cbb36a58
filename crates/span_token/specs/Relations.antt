-- How two spans lie to each other, and the spans made of two.
use Rattle.std.specs.Prelude.{ℕ, ◌-◌, ◌<◌, ◌≤◌, ◌≡◌, ◌⊎◌, min, max, Bool, ◌&&◌, ◌||◌, nat_lt, nat_le, ◌==◌, ℤ, pos, ◌≤ℤ◌, int_le, List, count_by}
use Rattle.span_token.specs.Extents.{Extent}

-- `a` ends at or before the begin of `b`, and the characters between are from `low` to `high`
pub record Follows (a b : Extent) (low high : ℤ) : Type 0 where
  pub in_order : a.end ≤ b.begin
  pub at_least : low ≤ℤ pos (b.begin - a.end)
  pub at_most : pos (b.begin - a.end) ≤ℤ high

-- how many tokens begin at or after a place and end at or before another
abbrev pub tokens_between : List Extent → ℕ → ℕ → ℕ
tokens_between tokens from to = count_by (λ t. nat_le from t.begin && nat_le t.end to) tokens

-- the same in tokens: those wholly between `a` and `b` are from `low` to `high`
pub record FollowsTok (tokens : List Extent) (a b : Extent) (low high : ℤ) : Type 0 where
  pub in_order : a.end ≤ b.begin
  pub at_least : low ≤ℤ pos (tokens_between tokens a.end b.begin)
  pub at_most : pos (tokens_between tokens a.end b.begin) ≤ℤ high

-- the two share a character, or an empty one lies strictly inside the other, or they are equal
abbrev pub Overlaps : Extent → Extent → Type 0
Overlaps a b = ((a.begin < b.end) × (b.begin < a.end)) ⊎ (a ≡ b)

-- `b` lies in `a`
pub record ContainsExtent (a b : Extent) : Type 0 where
  pub begins : a.begin ≤ b.begin
  pub ends : b.end ≤ a.end

-- from the lesser begin to the greater end
abbrev pub combined : Extent → Extent → Extent
combined a b = record { begin = min a.begin b.begin; end = max a.end b.end }

-- from the end of `a` to the begin of `b`, and empty where `b` begins before that end
abbrev pub gap_of : Extent → Extent → Extent
gap_of a b = record { begin = a.end; end = max a.end b.begin }

-- `Follows` as a test
abbrev pub does_follow : Extent → Extent → ℤ → ℤ → Bool
does_follow a b low high =
    nat_le a.end b.begin && (int_le low (pos (b.begin - a.end)) && int_le (pos (b.begin - a.end)) high)

-- `FollowsTok` as a test
abbrev pub does_follow_tok : List Extent → Extent → Extent → ℤ → ℤ → Bool
does_follow_tok tokens a b low high =
    nat_le a.end b.begin
    && (int_le low (pos (tokens_between tokens a.end b.begin)) && int_le (pos (tokens_between tokens a.end b.begin)) high)

-- `Overlaps` as a test
abbrev pub do_overlap : Extent → Extent → Bool
do_overlap a b = (nat_lt a.begin b.end && nat_lt b.begin a.end) || (a.begin == b.begin && a.end == b.end)

-- `ContainsExtent` as a test
abbrev pub does_contain : Extent → Extent → Bool
does_contain a b = nat_le a.begin b.begin && nat_le b.end a.end
