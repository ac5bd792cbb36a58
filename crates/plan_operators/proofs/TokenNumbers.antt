-- The tokens of a text by their numbers: their order, and how many begin before a place.
use Rattle.std.proofs.Common.{◌≡◌, ◌+◌, ◌<◌, ◌≤◌, ℕ, true, inl, inr, List, length, get_or, nat_lt, arith, ap}
use Rattle.std.specs.List.{count_by}
use Rattle.std.proofs.lemmas.Bool.{cases_lt, lt-ltb}
use Rattle.std.proofs.lemmas.Bool.Decides.{nat_tests}
use Rattle.std.proofs.lemmas.List.{get_or_default}
use Rattle.std.proofs.lemmas.List.Sums.{count_by-le-length}
use Rattle.span_token.specs.Extents.{Extent, nth_extent}
use Rattle.span_token.specs.SourceTokens.{InTextOrder}
use Rattle.span_token.specs.TokenLaws.{token_in_list, token_not_empty, token_in_text, apart}
use Rattle.span_token.specs.Tokens.{tokens_of}
use Rattle.plan_operators.specs.Neighbourhoods.{AreBegun}
use Rattle.plan_operators.proofs.Counting.{count-most, count-least}

-- the tokens of a text stand in its order, and end in it
pub tokens-in-order : (cs : List ℕ) → InTextOrder (tokens_of cs)
tokens-in-order cs = record {
  filled = λ i lt. token_not_empty cs (nth_extent (tokens_of cs) i) (token_in_list cs i (record { begin = 0; end = 0 }) lt);
  apart = λ i j lt low. apart cs i j (record { begin = 0; end = 0 }) lt low;
}

pub token-in-text : (cs : List ℕ) (i : ℕ) → i < length (tokens_of cs) → (nth_extent (tokens_of cs) i).end ≤ length cs
token-in-text cs i lt = token_in_text cs (nth_extent (tokens_of cs) i) (token_in_list cs i (record { begin = 0; end = 0 }) lt)

-- they rise
pub begins-rise : (tokens : List Extent) → InTextOrder tokens → (i j : ℕ) → i ≤ j → j < length tokens → (nth_extent tokens i).begin ≤ (nth_extent tokens j).begin
begins-rise tokens order i j le lt = elim (cases_lt i j) [
  | inl before ↦ omega (arith, order.filled i (omega (arith, before, lt)), order.apart i j before lt)
  | inr same ↦ let is : i ≡ j = omega (arith, same, le) in omega (arith, ap (λ n. (nth_extent tokens n).begin) is)
]

pub ends-rise : (tokens : List Extent) → InTextOrder tokens → (i j : ℕ) → i ≤ j → j < length tokens → (nth_extent tokens i).end ≤ (nth_extent tokens j).end
ends-rise tokens order i j le lt = elim (cases_lt i j) [
  | inl before ↦ omega (arith, order.filled j lt, order.apart i j before lt)
  | inr same ↦ let is : i ≡ j = omega (arith, same, le) in omega (arith, ap (λ n. (nth_extent tokens n).end) is)
]

-- just so many begin before a place
pub are-begun : (tokens : List Extent) (place : ℕ) → InTextOrder tokens → AreBegun tokens place (count_by (λ t. nat_lt t.begin place) tokens)
are-begun tokens place order = record { there = count_by-le-length _ tokens; before = before; behind = behind }
  where
    before : (i : ℕ) → i < count_by (λ (t : Extent). nat_lt t.begin place) tokens → (nth_extent tokens i).begin < place
    before i lt = elim (cases_lt (nth_extent tokens i).begin place) [
      | inl is ↦ is
      | inr ge ↦ absurd (omega (arith, lt, count-most (λ (t : Extent). nat_lt t.begin place) tokens 0 i (λ k d there is. (omega arith, earlier i ge k d there is))))
    ]
      where
        earlier : (i : ℕ) → place ≤ (nth_extent tokens i).begin → (k : ℕ) (d : Extent) → k < length tokens → nat_lt (get_or tokens k d).begin place ≡ true → k < i
        earlier i ge k d there is = elim (cases_lt k i) [
          | inl lt ↦ lt
          | inr late ↦ absurd (late_one i ge k d there is late)
        ]
          where
            late_one : (i : ℕ) → place ≤ (nth_extent tokens i).begin → (k : ℕ) (d : Extent) → k < length tokens → nat_lt (get_or tokens k d).begin place ≡ true → i ≤ k → ⊥
            late_one i ge k d there is late =
                let same = get_or_default tokens k d (record { begin = 0; end = 0 }) there in
                let small : (get_or tokens k d).begin < place = grind (arith, nat_tests, is) in
                omega (arith, small, ge, begins-rise tokens order i k late there, ap (λ (e : Extent). e.begin) same)

    behind : (i : ℕ) → count_by (λ (t : Extent). nat_lt t.begin place) tokens ≤ i → i < length tokens → place ≤ (nth_extent tokens i).begin
    behind i ge there = elim (cases_lt (nth_extent tokens i).begin place) [
      | inr is ↦ is
      | inl lt ↦ absurd (omega (arith, ge, count-least (λ (t : Extent). nat_lt t.begin place) tokens 0 (i + 1) (omega (arith, there)) (λ k d low high. all i lt there k d high)))
    ]
      where
        all : (i : ℕ) → (nth_extent tokens i).begin < place → i < length tokens → (k : ℕ) (d : Extent) → k < i + 1 → nat_lt (get_or tokens k d).begin place ≡ true
        all i lt there k d high =
            let same = get_or_default tokens k d (record { begin = 0; end = 0 }) (omega (arith, there, high)) in
            lt-ltb (get_or tokens k d).begin place (omega (arith, lt, begins-rise tokens order k i (omega (arith, high)) there, ap (λ (e : Extent). e.begin) same))

-- and before a place behind the text
pub begun-at-end : (cs : List ℕ) (place number : ℕ) → length cs ≤ place → AreBegun (tokens_of cs) (length cs) number → AreBegun (tokens_of cs) place number
begun-at-end cs place number late begun = record {
  there = begun.there;
  before = λ i lt. let before = begun.before i lt in omega (arith, before, late);
  behind = λ i ge there.
      let behind = begun.behind i ge there in
      let filled = (tokens-in-order cs).filled i there in
      let inside = token-in-text cs i there in
      absurd (omega (arith, behind, filled, inside));
}
