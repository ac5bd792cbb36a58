-- Runs of tokens: their extents, and the rows of the first matches in their texts.
use Rattle.std.proofs.Common.{◌≡◌, ℕ, ◌+◌, ◌-◌, ◌<◌, ◌≤◌, ◌++◌, List, [], ◌∷◌, length, get_or, true, false, Bool, cond, Option, Some, None, IsSomeAnd, is_some, unwrap_or, option_map, option_and_then, refl, sym, ap, ◌∙◌, arith, true≢false, suc, zero}
use Rattle.std.proofs.lemmas.List.{append-nil, length-append, get_or_default}
use Rattle.std.proofs.lemmas.List.Concat.{flat_map-append}
use Rattle.std.proofs.lemmas.List.Elements.{filter_map-append}
use Rattle.std.specs.List.{cons_option, filter_map, flat_map, range_with_len}
use Rattle.std.specs.Option.{option_or}
use Rattle.regex.specs.Patterns.{Re, Match, SameCaptures, find_str}
use Rattle.regex.proofs.ForCallers.{spans}
use Rattle.regex_syntax.proofs.CapturesLemmas as seen
use Rattle.span_token.specs.Documents.{Doc, text_in}
use Rattle.span_token.specs.Extents.{Extent}
use Rattle.span_token.specs.Relations.{ContainsExtent}
use Rattle.span_token.specs.SourceTokens.{HoldsTokens, run_extent}
use Rattle.aql_regex_extract.specs.Matches.{row_by, row_of, first_match}
use Rattle.aql_regex_extract.specs.Patterns.{tree_of, whole_form}
use Rattle.aql_regex_extract.specs.TokenRuns.{run_at, whole_row, longest_row}
use Rattle.aql_regex_extract.specs.Steps.{PutsRow}
use Rattle.aql_regex_extract.specs.Views.{Finds}
use Rattle.aql_regex_extract.proofs.MatchesAlike.{Seen, seen_group, row_of-seen}

-- ---- the row of the first match

rows-seen : (d : Doc) (e : Extent) (groups : List ℕ) (o : Option Match) →
    option_map (row_of d e groups) o ≡ option_map (λ (s : Seen). row_by d e groups (seen_group s)) (option_map spans o)
rows-seen d e groups None = refl
rows-seen d e groups (Some m) = ap Some (row_of-seen d e groups m)

first_row-by : (re : Re) (o : Option Re) (hay : List ℕ) (d : Doc) (e : Extent) (groups : List ℕ) → IsSomeAnd o (SameCaptures re) → ((k : ℕ) → get_or hay k 0 < 256) →
    option_map (row_of d e groups) (find_str re hay 0) ≡ option_map (row_of d e groups) (option_and_then (λ tree. find_str tree hay 0) o)
first_row-by re None hay d e groups finds bytes = absurd finds
first_row-by re (Some tree) hay d e groups finds bytes =
    rows-seen d e groups (find_str re hay 0)
    ∙ ap (option_map (λ (s : Seen). row_by d e groups (seen_group s))) (seen.find_str_alike re tree finds hay (λ k x h. rw (get_or_default hay k x 0 h) (bytes k)) 0)
    ∙ sym (rows-seen d e groups (find_str tree hay 0))

-- the row of the first match of an expression is that of the text whose tree it has
pub first_row-of_pattern : (re : Re) (form hay : List ℕ) (d : Doc) (e : Extent) (groups : List ℕ) → Finds re form → ((k : ℕ) → get_or hay k 0 < 256) →
    option_map (row_of d e groups) (find_str re hay 0) ≡ option_map (row_of d e groups) (first_match form hay)
first_row-of_pattern re form hay d e groups finds bytes = first_row-by re (tree_of form) hay d e groups finds bytes

-- the whole-text form has a match in the text of an extent
pub whole_row-Some : (re : Re) (pattern hay : List ℕ) (d : Doc) (e : Extent) (groups : List ℕ) (m : Match) → Finds re (whole_form pattern) →
    ((k : ℕ) → get_or hay k 0 < 256) → hay ≡ text_in d e → find_str re hay 0 ≡ Some m → whole_row pattern d groups e ≡ Some (row_of d e groups m)
whole_row-Some re pattern hay d e groups m finds bytes in_source found =
    ap (λ (t : List ℕ). option_map (row_of d e groups) (first_match (whole_form pattern) t)) (sym in_source)
    ∙ sym (first_row-of_pattern re (whole_form pattern) hay d e groups finds bytes)
    ∙ ap (option_map (row_of d e groups)) found

pub whole_row-None : (re : Re) (pattern hay : List ℕ) (d : Doc) (e : Extent) (groups : List ℕ) → Finds re (whole_form pattern) →
    ((k : ℕ) → get_or hay k 0 < 256) → hay ≡ text_in d e → find_str re hay 0 ≡ None → whole_row pattern d groups e ≡ None
whole_row-None re pattern hay d e groups finds bytes in_source found =
    ap (λ (t : List ℕ). option_map (row_of d e groups) (first_match (whole_form pattern) t)) (sym in_source)
    ∙ sym (first_row-of_pattern re (whole_form pattern) hay d e groups finds bytes)
    ∙ ap (option_map (row_of d e groups)) found

-- ---- the longest of the runs from a token on

longest-step : (rows : ℕ → Option (List (Option Extent))) (low count : ℕ) → low ≤ count →
    longest_row rows low (count + 1 - low) ≡ option_or (rows count) (longest_row rows low (count - low))
longest-step rows low count h =
    let n : count + 1 - low ≡ suc (count - low) = omega arith in
    let k : low + (count - low) ≡ count = omega arith in
    ap (longest_row rows low) n ∙ ap (λ j. option_or (rows j) (longest_row rows low (count - low))) k

-- a length that has a row is the greatest, where no greater one has
pub PutsRow-found : (rows : ℕ → Option (List (Option Extent))) (low count total : ℕ) (row : Option (List (Option Extent)))
    (old mid new : List (Option Extent)) (answer : Bool) → low ≤ count → row ≡ rows count →
    longest_row rows low (count + 1 - low) ≡ longest_row rows low total → mid ≡ old → answer ≡ true → PutsRow row mid new answer →
    PutsRow (longest_row rows low total) old new true
PutsRow-found rows low count total None old mid new answer le is_row left same here h = absurd (true≢false (sym here ∙ h.0))
PutsRow-found rows low count total (Some r) old mid new answer le is_row left same here h =
    let found : longest_row rows low total ≡ Some r =
    sym left ∙ longest-step rows low count le ∙ ap (λ o. option_or o (longest_row rows low (count - low))) (sym is_row) in
    (sym (ap is_some found), h.1 ∙ ap (λ m. m ++ r) same ∙ ap (λ o. old ++ unwrap_or o []) (sym found))

-- a length that has none is passed over
pub longest-passed : (rows : ℕ → Option (List (Option Extent))) (low count : ℕ) (row : Option (List (Option Extent)))
    (old new : List (Option Extent)) (answer : Bool) → 1 ≤ count → low ≤ count → row ≡ rows count → answer ≡ false → PutsRow row old new answer →
    (longest_row rows low (count - 1 + 1 - low) ≡ longest_row rows low (count + 1 - low)) × (new ≡ old)
longest-passed rows low count (Some r) old new answer positive le is_row gone h = absurd (true≢false (sym h.0 ∙ gone))
longest-passed rows low count None old new answer positive le is_row gone h =
    let n : count - 1 + 1 - low ≡ count - low = omega arith in (
      ap (longest_row rows low) n ∙ ap (λ o. option_or o (longest_row rows low (count - low))) is_row ∙ sym (longest-step rows low count le),
      h.1 ∙ append-nil old,
    )

-- a run that ends so many tokens on has as many tokens
pub run_at-count : (tokens : List Extent) (first count : ℕ) → 1 ≤ count → run_extent tokens first (first + (count - 1)) ≡ run_at tokens first count
run_at-count tokens first count positive =
    let last : first + (count - 1) ≡ first + count - 1 = omega arith in
    ap (run_extent tokens first) last

-- what holds the tokens of a run holds the run
pub ContainsExtent-run : (wide : Extent) (tokens : List Extent) (first last : ℕ) → first ≤ last → last < length tokens → HoldsTokens wide tokens →
    ContainsExtent wide (run_extent tokens first last)
ContainsExtent-run wide tokens first last le lt holds =
    let begin = (holds first (omega arith)).begins in
    let end = (holds last lt).ends in
    record { begins = begin; ends = end }

-- ---- one more token

range-more : (a n : ℕ) → range_with_len a (suc n) ≡ range_with_len a n ++ (a + n) ∷ []
range-more a zero = let same : a ≡ a + 0 = omega arith in ap (λ (x : ℕ). x ∷ []) same
range-more a (suc n) = let same : a + 1 + n ≡ a + suc n = omega arith in
    ap (λ (xs : List ℕ). a ∷ xs) (range-more (a + 1) n ∙ ap (λ (x : ℕ). range_with_len (a + 1) n ++ x ∷ []) same)

filter_map-more : (f : ℕ → Option (List (Option Extent))) (n : ℕ) →
    filter_map f (range_with_len 0 (n + 1)) ≡ filter_map f (range_with_len 0 n) ++ cons_option (f n) []
filter_map-more f n =
    let next : n + 1 ≡ suc n = omega arith in
    let here : 0 + n ≡ n = omega arith in
    ap (λ k. filter_map f (range_with_len 0 k)) next
    ∙ ap (filter_map f) (range-more 0 n ∙ ap (λ (x : ℕ). range_with_len 0 n ++ x ∷ []) here)
    ∙ filter_map-append f (range_with_len 0 n) (n ∷ [])

flat-option : (o : Option (List (Option Extent))) → flat_map (λ row. row) (cons_option o []) ≡ unwrap_or o []
flat-option None = refl
flat-option (Some r) = append-nil r

-- its row after the others
pub flat-more : (f : ℕ → Option (List (Option Extent))) (n : ℕ) →
    flat_map (λ row. row) (filter_map f (range_with_len 0 (n + 1))) ≡ flat_map (λ row. row) (filter_map f (range_with_len 0 n)) ++ unwrap_or (f n) []
flat-more f n =
    ap (flat_map (λ row. row)) (filter_map-more f n)
    ∙ flat_map-append (λ row. row) (filter_map f (range_with_len 0 n)) (cons_option (f n) [])
    ∙ ap (λ r. flat_map (λ row. row) (filter_map f (range_with_len 0 n)) ++ r) (flat-option (f n))

count-option : (o : Option (List (Option Extent))) (answer : Bool) → answer ≡ is_some o → length (cons_option o []) ≡ cond answer 1 0
count-option None answer is = ap (λ b. cond b 1 0) (sym is)
count-option (Some r) answer is = ap (λ b. cond b 1 0) (sym is)

-- and how many rows there are
pub count-more : (f : ℕ → Option (List (Option Extent))) (n : ℕ) (answer : Bool) → answer ≡ is_some (f n) →
    length (filter_map f (range_with_len 0 (n + 1))) ≡ length (filter_map f (range_with_len 0 n)) + cond answer 1 0
count-more f n answer is =
    ap length (filter_map-more f n) ∙ length-append (filter_map f (range_with_len 0 n)) (cons_option (f n) [])
    ∙ ap (λ k. length (filter_map f (range_with_len 0 n)) + k) (count-option (f n) answer is)
