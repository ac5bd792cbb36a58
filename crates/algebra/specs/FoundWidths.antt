-- How wide the rows are that an extraction finds.
use Rattle.std.proofs.Common.{◌≡◌, ℕ, zero, suc, ◌+◌, ◌-◌, List, [], ◌∷◌, map, length, refl, Option, Some, None, option_map, min}
use Rattle.std.specs.List.{All, cons_option, filter_map, range_with_len}
use Rattle.std.specs.Option.{IfSome, option_or}
use Rattle.std.proofs.lemmas.List.{length-map}
use Rattle.std.proofs.lemmas.List.Elements.{All-nil, All-cons, All-map}
use Rattle.span_token.specs.Documents.{Doc, text_in}
use Rattle.span_token.specs.Extents.{Extent}
use Rattle.span_token.specs.SourceTokens.{tokens_in}
use Rattle.row_values.specs.Datums.{Datum}
use Rattle.row_values.specs.Rows.{span_in}
use Rattle.aql_regex_extract.specs.Matches.{first_match, matches_of, row_of, match_rows}
use Rattle.aql_regex_extract.specs.Patterns.{whole_form}
use Rattle.aql_regex_extract.specs.TokenRuns.{run_at, run_row, longest_row, whole_row, run_rows}
use Rattle.dict_match.specs.DictMatches.{dict_matches}
use Rattle.scalar_ops.specs.Extractions.{of_some, of_pattern, of_dict}
use Rattle.scalar_ops.specs.Tables.{Lists}
use Rattle.aql_typed.specs.Trees.{Extraction, regex, token_regex, dict, blocks}
use Rattle.aql_typed.specs.Fitting.{found_width}
use Rattle.aql_typed.specs.Meaning.{found_in}

-- what is found has so many entries
abbrev Wide : ℕ → List (Option Extent) → Type 0
Wide n found = length found ≡ n

pub All-of_some : {A B : Type 0} (P : B → Type 0) (f : A → List B) (o : Option A) → ((x : A) → All P (f x)) → All P (of_some f o)
All-of_some P f None each = All-nil P
All-of_some P f (Some x) each = each x

matches_wide : (pattern : List ℕ) (doc : Doc) (source : Extent) (groups : List ℕ) → All (Wide (length groups)) (match_rows pattern doc source groups)
matches_wide pattern doc source groups =
    All-map (Wide (length groups)) (row_of doc source groups) (matches_of pattern (text_in doc source)) (λ k d below. length-map groups _)

mapped_wide : {X : Type 0} (n : ℕ) (f : X → List (Option Extent)) → ((x : X) → Wide n (f x)) → (o : Option X) → IfSome (option_map f o) (Wide n)
mapped_wide n f each None = tt
mapped_wide n f each (Some x) = each x

either_wide : (n : ℕ) (o p : Option (List (Option Extent))) → IfSome o (Wide n) → IfSome p (Wide n) → IfSome (option_or o p) (Wide n)
either_wide n None p h k = k
either_wide n (Some found) p h k = h

longest_wide : (n : ℕ) (row_at : ℕ → Option (List (Option Extent))) → ((k : ℕ) → IfSome (row_at k) (Wide n)) → (low count : ℕ) → IfSome (longest_row row_at low count) (Wide n)
longest_wide n row_at each low zero = tt
longest_wide n row_at each low (suc count) = either_wide n (row_at (low + count)) (longest_row row_at low count) (each (low + count)) (longest_wide n row_at each low count)

All-some : {X : Type 0} (P : X → Type 0) (o : Option X) (xs : List X) → IfSome o P → All P xs → All P (cons_option o xs)
All-some P None xs h k = k
All-some P (Some x) xs h k = All-cons P x xs h k

All-filter_map : {X Y : Type 0} (P : Y → Type 0) (h : X → Option Y) → ((x : X) → IfSome (h x) P) → (xs : List X) → All P (filter_map h xs)
All-filter_map P h each [] = All-nil P
All-filter_map P h each (x ∷ xs) = All-some P (h x) (filter_map h xs) (each x) (All-filter_map P h each xs)

runs_wide : (pattern : List ℕ) (doc : Doc) (source : Extent) (low high : ℕ) (groups : List ℕ) → All (Wide (length groups)) (run_rows pattern doc source low high groups)
unfolding run_rows
runs_wide pattern doc source low high groups =
    let tokens = tokens_in doc source in
    All-filter_map (Wide (length groups)) (run_row pattern doc tokens low high groups)
    (λ i. longest_wide (length groups) (λ k. whole_row pattern doc groups (run_at tokens i k))
    (λ k. mapped_wide (length groups) (row_of doc (run_at tokens i k) groups) (λ m. length-map groups _) (first_match (whole_form pattern) (text_in doc (run_at tokens i k)))) low (min high (length tokens - i) + 1 - low))
    (range_with_len 0 (length tokens))

entries_wide : (es : List Extent) → All (Wide 1) (map (λ e. Some e ∷ []) es)
entries_wide es = All-map (Wide 1) (λ e. Some e ∷ []) es (λ k d below. refl)

module _ (lists : Lists) (doc : Doc) where
  -- each row that is found has an entry for each column of the extraction
  pub found-wide : (extraction : Extraction) (row : List Datum) → All (λ found. length found ≡ found_width extraction) (found_in lists doc extraction row)
  found-wide (regex column p groups) row =
      All-of_some (Wide (length groups)) (λ source. of_pattern lists p (λ pattern. match_rows pattern doc source groups)) (span_in column row)
      (λ source. All-of_some (Wide (length groups)) (λ pattern. match_rows pattern doc source groups) _ (λ pattern. matches_wide pattern doc source groups))
  found-wide (token_regex column low high p groups) row =
      All-of_some (Wide (length groups)) (λ source. of_pattern lists p (λ pattern. run_rows pattern doc source low high groups)) (span_in column row)
      (λ source. All-of_some (Wide (length groups)) (λ pattern. run_rows pattern doc source low high groups) _ (λ pattern. runs_wide pattern doc source low high groups))
  found-wide (dict column d) row =
      All-of_some (Wide 1) (λ source. map (λ e. Some e ∷ []) (of_dict lists d (λ dictionary. dict_matches dictionary doc source))) (span_in column row)
      (λ source. entries_wide (of_dict lists d (λ dictionary. dict_matches dictionary doc source)))
  found-wide (blocks column low high from to tokens) row = All-nil (Wide 1)
