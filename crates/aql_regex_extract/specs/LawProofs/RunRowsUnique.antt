-- Just one list of rows has the property of run rows: `run_rows`.
use Rattle.std.proofs.Common.{◌≡◌, ℕ, List, Option, Some, None, refl, sym, ap, ◌∙◌, inl, inr, arith}
use Rattle.std.proofs.lemmas.List.{ext_get_or}
use Rattle.std.proofs.lemmas.Bool.{cases_lt}
use Rattle.std.specs.List.{filter_map}
use Rattle.span_token.specs.Documents.{Doc}
use Rattle.span_token.specs.Extents.{Extent}
use Rattle.aql_regex_extract.specs.TokenRuns.{run_at, whole_row, IsLongest, GivesRun, AreRunRows, run_rows}
use Rattle.aql_regex_extract.specs.LawProofs.TokenRunLaws.{run_rows-are}

-- there is one greatest length
longest_is_unique : (matches : ℕ → Type 0) (low high k j : ℕ) → IsLongest matches low high k → IsLongest matches low high j → k ≡ j
longest_is_unique matches low high k j one other = elim (cases_lt k j) [
  | inl lt ↦ absurd (one.none_longer j lt other.at_most other.matching)
  | inr ge ↦ elim (cases_lt j k) [
    | inl lt ↦ absurd (other.none_longer k lt one.at_most one.matching)
    | inr ge' ↦ omega arith
  ]
]

module _ (pattern : List ℕ) (d : Doc) (tokens : List Extent) (low high : ℕ) (groups : List ℕ) where
  -- a token gives one row, or none
  given_is_unique : (i : ℕ) (a b : Option (List (Option Extent))) → GivesRun pattern d tokens low high groups i a →
      GivesRun pattern d tokens low high groups i b → a ≡ b
  given_is_unique i None None a b = refl
  given_is_unique i None (Some row) a b = absurd (a b.run b.longest.at_least b.longest.at_most b.longest.matching)
  given_is_unique i (Some row) None a b = absurd (b a.run a.longest.at_least a.longest.at_most a.longest.matching)
  given_is_unique i (Some row) (Some other) a b =
      let same = longest_is_unique _ low high a.run b.run a.longest b.longest in
      sym a.row_is ∙ ap (λ (k : ℕ). whole_row pattern d groups (run_at tokens i k)) same ∙ b.row_is

-- two lists of rows that have the property are one
run_rows-unique : (pattern : List ℕ) (d : Doc) (source : Extent) (low high : ℕ) (groups : List ℕ) (rows others : List (List (Option Extent))) →
    AreRunRows pattern d source low high groups rows → AreRunRows pattern d source low high groups others → rows ≡ others
run_rows-unique pattern d source low high groups rows others one other =
    let same = ext_get_or None one.given other.given (one.each_token ∙ sym other.each_token)
    (λ i inside. given_is_unique pattern d _ low high groups i _ _ (one.gives i (omega (arith, one.each_token, inside)))
    (other.gives i (omega (arith, one.each_token, inside)))) in
    one.rows_are ∙ ap (filter_map (λ row. row)) same ∙ sym other.rows_are

-- rows that have the property are `run_rows`
pub run_rows-only : (pattern : List ℕ) (d : Doc) (source : Extent) (low high : ℕ) (groups : List ℕ) (rows : List (List (Option Extent))) →
    AreRunRows pattern d source low high groups rows → rows ≡ run_rows pattern d source low high groups
run_rows-only pattern d source low high groups rows are =
    run_rows-unique pattern d source low high groups rows _ are (run_rows-are pattern d source low high groups)
