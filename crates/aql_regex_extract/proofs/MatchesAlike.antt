-- What an expression finds is what the text of its pattern means.
use Rattle.std.proofs.Common.{◌≡◌, ℕ, zero, suc, ◌*◌, ◌+◌, ◌<◌, ◌++◌, List, [], ◌∷◌, map, length, get_or, true, Option, Some, None, IsSomeAnd, is_some, option_and_then, refl, sym, ap, ap₂, ◌∙◌}
use Rattle.std.proofs.lemmas.List.{length-map}
use Rattle.std.specs.List.{flat_map}
use Rattle.regex.specs.Patterns.{Re, Match, SameCaptures, find_str, find_all_str}
use Rattle.regex.specs.Writes.{both}
use Rattle.regex.proofs.ForCallers.{spans, find_all_alike, is_match_alike}
use Rattle.span_token.specs.Documents.{Doc}
use Rattle.span_token.specs.Extents.{Extent}
use Rattle.aql_regex_extract.specs.Matches.{group_in, row_by, row_of, matches_by, matches_of, has_match}
use Rattle.aql_regex_extract.specs.Patterns.{tree_of}
use Rattle.aql_regex_extract.specs.Views.{Finds}
use Rattle.aql_regex_extract.proofs.CapturedRows.{row_by-alike}

-- what a caller sees of a match: its span, and the last position of each slot
abbrev pub Seen : Type 0
Seen = ℕ × ℕ × (ℕ → Option ℕ)

pub seen_group : Seen → ℕ → Option (ℕ × ℕ)
seen_group s zero = Some (s.0, s.1)
seen_group s (suc n) = both (s.2 (2 * suc n)) (s.2 (2 * suc n + 1))

group_in-seen : (m : Match) (n : ℕ) → group_in m n ≡ seen_group (spans m) n
unfolding seen_group
group_in-seen m zero = refl
group_in-seen m (suc n) = refl

pub row_of-seen : (d : Doc) (source : Extent) (groups : List ℕ) (m : Match) → row_of d source groups m ≡ row_by d source groups (seen_group (spans m))
row_of-seen d source groups m = row_by-alike d source (group_in m) (seen_group (spans m)) (group_in-seen m) groups

rows-seen : (d : Doc) (source : Extent) (groups : List ℕ) (ms : List Match) →
    flat_map (row_of d source groups) ms ≡ flat_map (λ (s : Seen). row_by d source groups (seen_group s)) (map spans ms)
rows-seen d source groups [] = refl
rows-seen d source groups (m ∷ ms) = ap₂ ◌++◌ (row_of-seen d source groups m) (rows-seen d source groups ms)

rows-alike : (re tree : Re) (hay : List ℕ) (d : Doc) (source : Extent) (groups : List ℕ) → SameCaptures re tree → ((k : ℕ) → get_or hay k 0 < 256) →
    flat_map (row_of d source groups) (find_all_str re hay) ≡ flat_map (row_of d source groups) (find_all_str tree hay)
rows-alike re tree hay d source groups same bytes =
    rows-seen d source groups (find_all_str re hay)
    ∙ ap (flat_map (λ (s : Seen). row_by d source groups (seen_group s))) (find_all_alike same hay bytes true)
    ∙ sym (rows-seen d source groups (find_all_str tree hay))

rows-by : (re : Re) (o : Option Re) (hay : List ℕ) (d : Doc) (source : Extent) (groups : List ℕ) → IsSomeAnd o (SameCaptures re) → ((k : ℕ) → get_or hay k 0 < 256) →
    flat_map (row_of d source groups) (find_all_str re hay) ≡ flat_map (row_of d source groups) (matches_by o hay)
rows-by re None hay d source groups finds bytes = absurd finds
rows-by re (Some tree) hay d source groups finds bytes = rows-alike re tree hay d source groups finds bytes

-- the rows of what an expression finds are those of the pattern whose tree it has
pub rows-of_pattern : (re : Re) (pattern hay : List ℕ) (d : Doc) (source : Extent) (groups : List ℕ) → Finds re pattern → ((k : ℕ) → get_or hay k 0 < 256) →
    flat_map (row_of d source groups) (find_all_str re hay) ≡ flat_map (row_of d source groups) (matches_of pattern hay)
rows-of_pattern re pattern hay d source groups finds bytes = rows-by re (tree_of pattern) hay d source groups finds bytes

found-by : (re : Re) (o : Option Re) (hay : List ℕ) → IsSomeAnd o (SameCaptures re) → ((k : ℕ) → get_or hay k 0 < 256) →
    is_some (find_str re hay 0) ≡ is_some (option_and_then (λ tree. find_str tree hay 0) o)
found-by re None hay finds bytes = absurd finds
found-by re (Some tree) hay finds bytes = is_match_alike finds hay bytes true 0

-- an expression matches somewhere in a text where the pattern does
pub has_match-of_pattern : (re : Re) (pattern hay : List ℕ) → Finds re pattern → ((k : ℕ) → get_or hay k 0 < 256) →
    is_some (find_str re hay 0) ≡ has_match pattern hay
has_match-of_pattern re pattern hay finds bytes = found-by re (tree_of pattern) hay finds bytes

count-by : (re : Re) (o : Option Re) (hay : List ℕ) → IsSomeAnd o (SameCaptures re) → ((k : ℕ) → get_or hay k 0 < 256) →
    length (find_all_str re hay) ≡ length (matches_by o hay)
count-by re None hay finds bytes = absurd finds
count-by re (Some tree) hay finds bytes =
    sym (length-map (find_all_str re hay) spans) ∙ ap length (find_all_alike finds hay bytes true) ∙ length-map (find_all_str tree hay) spans

-- an expression finds as many matches as the pattern does
pub count-of_pattern : (re : Re) (pattern hay : List ℕ) → Finds re pattern → ((k : ℕ) → get_or hay k 0 < 256) →
    length (find_all_str re hay) ≡ length (matches_of pattern hay)
count-of_pattern re pattern hay finds bytes = count-by re (tree_of pattern) hay finds bytes
