-- A run of tokens that joins with a span stands near it, for each predicate of joins.
use Rattle.std.proofs.Common.{◌≡◌, ◌+◌, ◌-◌, ◌<◌, ◌≤◌, ◌&&◌, ℕ, ℤ, pos, negsuc, Bool, true, inl, inr, List, length, get_or, nat_le, int_le, arith, ap}
use Rattle.std.proofs.lemmas.Bool.{cases_lt, and_parts, and_from, le-leb}
use Rattle.std.proofs.lemmas.Bool.Decides.{nat_tests}
use Rattle.std.proofs.lemmas.List.{get_or_default}
use Rattle.span_token.specs.Contexts.{how_many}
use Rattle.span_token.specs.Extents.{Extent, nth_extent}
use Rattle.span_token.specs.Relations.{does_follow, does_follow_tok, do_overlap, does_contain, tokens_between}
use Rattle.span_token.specs.SourceTokens.{InTextOrder}
use Rattle.plan_operators.specs.Neighbourhoods.{AreBegun, IsInRun}
use Rattle.plan_operators.proofs.Counting.{count-most, count-least}

-- ---- bounds

how_many-most : (low : ℤ) (gap : ℕ) → int_le low (pos gap) ≡ true → how_many low ≤ gap
how_many-most (pos n) gap h = grind (arith, nat_tests, h)
how_many-most (negsuc n) gap h = omega arith

how_many-least : (high : ℤ) (gap : ℕ) → int_le (pos gap) high ≡ true → gap ≤ how_many high
how_many-least (pos n) gap h = grind (arith, nat_tests, h)
how_many-least (negsuc n) gap h = absurd cc

-- what is in front of a span by a number of characters, or behind it
pub follow-bounds : (a b : Extent) (low high : ℤ) → does_follow a b low high ≡ true → (a.end + how_many low ≤ b.begin) × (b.begin ≤ a.end + how_many high)
follow-bounds a b low high h =
    let both = and_parts (nat_le a.end b.begin) (int_le low (pos (b.begin - a.end)) && int_le (pos (b.begin - a.end)) high) h in
    let gap = and_parts (int_le low (pos (b.begin - a.end))) (int_le (pos (b.begin - a.end)) high) both.1 in
    let in_order : a.end ≤ b.begin = grind (arith, nat_tests, both.0) in
    let least = how_many-most low (b.begin - a.end) gap.0 in
    let most = how_many-least high (b.begin - a.end) gap.1 in
    (omega (arith, in_order, least), omega (arith, in_order, most))

-- the same by a number of tokens
pub record GapIn (tokens : List Extent) (from to low high : ℕ) : Type 0 where
  pub in_order : from ≤ to
  pub least : low ≤ tokens_between tokens from to
  pub most : tokens_between tokens from to ≤ high

pub follow_tok-bounds : (tokens : List Extent) (a b : Extent) (low high : ℤ) → does_follow_tok tokens a b low high ≡ true → GapIn tokens a.end b.begin (how_many low) (how_many high)
follow_tok-bounds tokens a b low high h =
    let n = tokens_between tokens a.end b.begin in
    let both = and_parts (nat_le a.end b.begin) (int_le low (pos n) && int_le (pos n) high) h in
    let gap = and_parts (int_le low (pos n)) (int_le (pos n) high) both.1 in
    record { in_order = grind (arith, nat_tests, both.0); least = how_many-most low n gap.0; most = how_many-least high n gap.1 }

pub overlap-bounds : (a b : Extent) → a.begin ≤ a.end → do_overlap a b ≡ true → (a.begin ≤ b.end) × (b.begin ≤ a.end)
overlap-bounds a b ordered h = (grind (arith, nat_tests, ordered, h), grind (arith, nat_tests, ordered, h))

pub contain-bounds : (a b : Extent) → does_contain a b ≡ true → (a.begin ≤ b.begin) × (b.end ≤ a.end)
contain-bounds a b h = (grind (arith, nat_tests, h), grind (arith, nat_tests, h))

-- ---- runs

module _ (tokens : List Extent) (order : InTextOrder tokens) (first past : ℕ) (e : Extent) (run : IsInRun tokens first past e) where
  -- a run that reaches to a place has all tokens that begin before it among its tokens and those in front
  pub ends-late : (place number x : ℕ) → AreBegun tokens place number → place ≤ x → x ≤ (nth_extent tokens (past - 1)).end → number ≤ past
  ends-late place number x begun le reached = elim (cases_lt past number) [
    | inr ok ↦ ok
    | inl short ↦
        let some = run.some in
        let there = begun.there in
        let before = begun.before (number - 1) (omega (arith, short)) in
        let apart = order.apart (past - 1) (number - 1) (omega (arith, short, some)) (omega (arith, there, short)) in
        absurd (omega (arith, apart, before, le, reached))
  ]

  -- one that begins before a place begins with a token that does
  pub begins-early : (place number y : ℕ) → AreBegun tokens place number → (nth_extent tokens first).begin ≤ y → y < place → first < number
  begins-early place number y begun reached lt = elim (cases_lt first number) [
    | inl ok ↦ ok
    | inr late ↦
        let there = run.there in
        let some = run.some in
        let behind = begun.behind first late (omega (arith, there, some)) in
        absurd (omega (arith, behind, reached, lt))
  ]

  -- behind a span
  module _ (from number low high : ℕ) (begun : AreBegun tokens from number) (gap : GapIn tokens from e.begin low high) where
    between : Extent → Bool
    between t = nat_le from t.begin && nat_le t.end e.begin

    pub behind-begins : first < number + high + 1
    behind-begins = elim (cases_lt first (number + high + 1)) [
      | inl ok ↦ ok
      | inr late ↦
          let least = count-least (λ (t : Extent). nat_le from t.begin && nat_le t.end e.begin) tokens number first (omega (arith, run.some, run.there)) all in
          let most = gap.most in
          absurd (omega (arith, least, most, late))
    ]
      where
        all : (k : ℕ) (d : Extent) → number ≤ k → k < first → (nat_le from (get_or tokens k d).begin && nat_le (get_or tokens k d).end e.begin) ≡ true
        all k d low high =
            let some = run.some in
            let there = run.there in
            let same = get_or_default tokens k d (record { begin = 0; end = 0 }) (omega (arith, high, some, there)) in
            let behind = begun.behind k low (omega (arith, high, some, there)) in
            let apart = order.apart k first high (omega (arith, some, there)) in
            let inside = run.ends.begin_from in
            and_from (nat_le from (get_or tokens k d).begin) (nat_le (get_or tokens k d).end e.begin)
            (le-leb from (get_or tokens k d).begin (omega (arith, behind, ap (λ (t : Extent). t.begin) same)))
            (le-leb (get_or tokens k d).end e.begin (omega (arith, apart, inside, ap (λ (t : Extent). t.end) same)))

    pub behind-ends : number + low ≤ past
    behind-ends =
        let most = count-most (λ (t : Extent). nat_le from t.begin && nat_le t.end e.begin) tokens number past only in
        let reached = ends-late from number e.begin begun gap.in_order run.ends.begin_to in
        let least = gap.least in
        omega (arith, most, least, reached)
      where
        only : (k : ℕ) (d : Extent) → k < length tokens → (nat_le from (get_or tokens k d).begin && nat_le (get_or tokens k d).end e.begin) ≡ true → (number ≤ k) × (k < past)
        only k d lt is =
            let same = get_or_default tokens k d (record { begin = 0; end = 0 }) lt in
            let parts = and_parts (nat_le from (get_or tokens k d).begin) (nat_le (get_or tokens k d).end e.begin) is in
            let late : from ≤ (nth_extent tokens k).begin = let it : from ≤ (get_or tokens k d).begin = grind (arith, nat_tests, parts.0) in omega (arith, it, ap (λ (t : Extent). t.begin) same) in
            let early : (nth_extent tokens k).end ≤ e.begin = let it : (get_or tokens k d).end ≤ e.begin = grind (arith, nat_tests, parts.1) in omega (arith, it, ap (λ (t : Extent). t.end) same) in
            (not_before k late, not_behind k lt early)
          where
            not_before : (k : ℕ) → from ≤ (nth_extent tokens k).begin → number ≤ k
            not_before k late = elim (cases_lt k number) [
              | inr ok ↦ ok
              | inl lt ↦ let before = begun.before k lt in absurd (omega (arith, before, late))
            ]

            not_behind : (k : ℕ) → k < length tokens → (nth_extent tokens k).end ≤ e.begin → k < past
            not_behind k lt early = elim (cases_lt k past) [
              | inl ok ↦ ok
              | inr late ↦
                  let some = run.some in
                  let apart = order.apart (past - 1) k (omega (arith, late, some)) lt in
                  let filled = order.filled k lt in
                  let inside = run.ends.begin_to in
                  absurd (omega (arith, apart, filled, early, inside))
            ]

  -- in front of a span
  module _ (to number low high : ℕ) (begun : AreBegun tokens to number) (gap : GapIn tokens e.end to low high) where
    not_late : first ≤ number
    not_late = elim (cases_lt number first) [
      | inr ok ↦ ok
      | inl late ↦
          let some = run.some in
          let there = run.there in
          let behind = begun.behind number (omega arith) (omega (arith, late, some, there)) in
          let filled = order.filled number (omega (arith, late, some, there)) in
          let apart = order.apart number first late (omega (arith, some, there)) in
          let inside = run.ends.end_from in
          let in_order = gap.in_order in
          absurd (omega (arith, behind, filled, apart, inside, in_order))
    ]

    pub front-begins : first + low ≤ number
    front-begins =
        let most = count-most (λ (t : Extent). nat_le e.end t.begin && nat_le t.end to) tokens first number only in
        let least = gap.least in
        let early = not_late in
        omega (arith, most, least, early)
      where
        only : (k : ℕ) (d : Extent) → k < length tokens → (nat_le e.end (get_or tokens k d).begin && nat_le (get_or tokens k d).end to) ≡ true → (first ≤ k) × (k < number)
        only k d lt is =
            let same = get_or_default tokens k d (record { begin = 0; end = 0 }) lt in
            let parts = and_parts (nat_le e.end (get_or tokens k d).begin) (nat_le (get_or tokens k d).end to) is in
            let late : e.end ≤ (nth_extent tokens k).begin = let it : e.end ≤ (get_or tokens k d).begin = grind (arith, nat_tests, parts.0) in omega (arith, it, ap (λ (t : Extent). t.begin) same) in
            let early : (nth_extent tokens k).end ≤ to = let it : (get_or tokens k d).end ≤ to = grind (arith, nat_tests, parts.1) in omega (arith, it, ap (λ (t : Extent). t.end) same) in
            (not_before k lt late, not_behind k lt early)
          where
            not_before : (k : ℕ) → k < length tokens → e.end ≤ (nth_extent tokens k).begin → first ≤ k
            not_before k lt late = elim (cases_lt k first) [
              | inr ok ↦ ok
              | inl before ↦
                  let some = run.some in
                  let there = run.there in
                  let apart = order.apart k first before (omega (arith, some, there)) in
                  let filled = order.filled k lt in
                  let inside = run.ends.end_from in
                  absurd (omega (arith, apart, filled, inside, late))
            ]

            not_behind : (k : ℕ) → k < length tokens → (nth_extent tokens k).end ≤ to → k < number
            not_behind k lt early = elim (cases_lt k number) [
              | inl ok ↦ ok
              | inr late ↦
                  let behind = begun.behind k late lt in
                  let filled = order.filled k lt in
                  absurd (omega (arith, behind, filled, early))
            ]

    pub front-ends : number - (high + 1) ≤ past
    front-ends =
        let there = begun.there in
        let least = count-least (λ (t : Extent). nat_le e.end t.begin && nat_le t.end to) tokens past (number - 1) (omega (arith, there)) all in
        let most = gap.most in
        omega (arith, least, most)
      where
        all : (k : ℕ) (d : Extent) → past ≤ k → k < number - 1 → (nat_le e.end (get_or tokens k d).begin && nat_le (get_or tokens k d).end to) ≡ true
        all k d low high =
            let some = run.some in
            let there = begun.there in
            let same = get_or_default tokens k d (record { begin = 0; end = 0 }) (omega (arith, high, there)) in
            let apart = order.apart (past - 1) k (omega (arith, low, some)) (omega (arith, high, there)) in
            let inside = run.ends.end_to in
            let next = order.apart k (number - 1) high (omega (arith, high, there)) in
            let before = begun.before (number - 1) (omega (arith, high)) in
            and_from (nat_le e.end (get_or tokens k d).begin) (nat_le (get_or tokens k d).end to)
            (le-leb e.end (get_or tokens k d).begin (omega (arith, apart, inside, ap (λ (t : Extent). t.begin) same)))
            (le-leb (get_or tokens k d).end to (omega (arith, next, before, ap (λ (t : Extent). t.end) same)))
