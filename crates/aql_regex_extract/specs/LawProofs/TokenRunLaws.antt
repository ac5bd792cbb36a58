-- The rows of token runs, as a function, are those of the longest runs.
use Rattle.std.proofs.Common.{◌≡◌, ℕ, zero, suc, ◌+◌, ◌-◌, ◌<◌, ◌≤◌, min, List, [], ◌∷◌, map, length, Option, Some, None, MatchOption, is_some, option_map, true≢false, refl, sym, ap, ◌∙◌, subst, inl, inr, arith, true}
use Rattle.std.proofs.lemmas.Bool.{cases_lt}
use Rattle.std.proofs.lemmas.List.FromFn.{length-map-range_with_len, get_or-map-range_with_len}
use Rattle.std.proofs.lemmas.Option.{none-some}
use Rattle.std.specs.List.{cons_option, filter_map, range_with_len}
use Rattle.std.specs.Option.{option_or}
use Rattle.regex.specs.Patterns.{Match}
use Rattle.span_token.specs.Documents.{Doc, text_in}
use Rattle.span_token.specs.Extents.{Extent}
use Rattle.span_token.specs.SourceTokens.{tokens_in}
use Rattle.aql_regex_extract.specs.Matches.{first_match, row_of}
use Rattle.aql_regex_extract.specs.Patterns.{whole_form}
use Rattle.aql_regex_extract.specs.TokenRuns.{run_at, whole_row, GivesRun, AreRunRows, longest_row, run_row, run_rows}

-- the row of the greatest length that has one, or no length has one
abbrev IsLongestRow : (ℕ → Option (List (Option Extent))) → ℕ → ℕ → Option (List (Option Extent)) → Type 0
IsLongestRow f low n o = MatchOption o ((k : ℕ) → low ≤ k → k < low + n → f k ≡ None)
    (λ row. (k : ℕ) × (low ≤ k) × (k < low + n) × (f k ≡ Some row) × ((j : ℕ) → k < j → j < low + n → f j ≡ None))

longest_row-next : (f : ℕ → Option (List (Option Extent))) (low n : ℕ) (here rest : Option (List (Option Extent))) → f (low + n) ≡ here →
    IsLongestRow f low n rest → IsLongestRow f low (suc n) (option_or here rest)
longest_row-next f low n (Some row) rest is h = (low + n, omega arith, omega arith, is, λ j a b. absurd (omega arith))
longest_row-next f low n None None is h = λ k a b. elim (cases_lt k (low + n)) [
  | inl lt ↦ h k a lt
  | inr ge ↦ let same : k ≡ low + n = omega arith in ap f same ∙ is
]
longest_row-next f low n None (Some row) is h = (
  h.0,
  h.1,
  omega (arith, h.2),
  h.3,
  λ j a b. elim (cases_lt j (low + n)) [
    | inl lt ↦ h.4 j a lt
    | inr ge ↦ let same : j ≡ low + n = omega arith in ap f same ∙ is
  ],
)

longest_row-is : (f : ℕ → Option (List (Option Extent))) (low n : ℕ) → IsLongestRow f low n (longest_row f low n)
longest_row-is f low zero = λ k a b. absurd (omega arith)
longest_row-is f low (suc n) = longest_row-next f low n (f (low + n)) (longest_row f low n) refl (longest_row-is f low n)

module _ (pattern : List ℕ) (d : Doc) (groups : List ℕ) where
  no_match : (e : Extent) (o : Option Match) → option_map (row_of d e groups) o ≡ None → is_some o ≡ true → ⊥
  no_match e None none some = true≢false (sym some)
  no_match e (Some m) none some = none-some _ (sym none)

  a_match : (e : Extent) (o : Option Match) (row : List (Option Extent)) → option_map (row_of d e groups) o ≡ Some row → is_some o ≡ true
  a_match e None row is = absurd (none-some _ is)
  a_match e (Some m) row is = refl

  gives-run : (tokens : List Extent) (low high i : ℕ) (o : Option (List (Option Extent))) → i < length tokens →
      IsLongestRow (λ k. whole_row pattern d groups (run_at tokens i k)) low (min high (length tokens - i) + 1 - low) o →
      GivesRun pattern d tokens low high groups i o
  gives-run tokens low high i None inside h = λ k a b m.
      no_match (run_at tokens i k) (first_match (whole_form pattern) (text_in d (run_at tokens i k)))
      (h k a (omega (arith, m.there))) m.matching
  gives-run tokens low high i (Some row) inside h = record {
    run = h.0;
    longest = record {
      at_least = h.1;
      at_most = omega (arith, h.2);
      matching = record {
        there = omega (arith, h.2);
        matching = a_match (run_at tokens i h.0) (first_match (whole_form pattern) (text_in d (run_at tokens i h.0))) row h.3;
      };
      none_longer = λ j a b m.
          no_match (run_at tokens i j) (first_match (whole_form pattern) (text_in d (run_at tokens i j)))
          (h.4 j a (omega (arith, m.there))) m.matching;
    };
    row_is = h.3;
  }

filter_map-map : (f : ℕ → Option (List (Option Extent))) (xs : List ℕ) → filter_map f xs ≡ filter_map (λ o. o) (map f xs)
filter_map-map f [] = refl
filter_map-map f (x ∷ xs) = ap (cons_option (f x)) (filter_map-map f xs)

-- `run_rows` has the rows of the longest runs
pub run_rows-are : (pattern : List ℕ) (d : Doc) (source : Extent) (low high : ℕ) (groups : List ℕ) →
    AreRunRows pattern d source low high groups (run_rows pattern d source low high groups)
unfolding run_rows
run_rows-are pattern d source low high groups =
    let tokens = tokens_in d source in
    let row = run_row pattern d tokens low high groups in
    record {
      given = map row (range_with_len 0 (length tokens));
      each_token = length-map-range_with_len row 0 (length tokens);
      gives = λ i inside. subst (GivesRun pattern d tokens low high groups i)
          (sym (get_or-map-range_with_len row 0 (length tokens) i i None inside (omega arith)))
          (gives-run pattern d groups tokens low high i (row i) inside
          (longest_row-is (λ k. whole_row pattern d groups (run_at tokens i k)) low (min high (length tokens - i) + 1 - low)));
      rows_are = filter_map-map row (range_with_len 0 (length tokens));
    }
