-- Laws of the rows of a pattern, for callers.
use Rattle.std.proofs.Common.{◌≡◌, ℕ, ◌++◌, List, [], ◌∷◌, map, Option, Some, refl, ap}
use Rattle.std.proofs.lemmas.List.Concat.{flat_map_single}
use Rattle.std.specs.List.{flat_map}
use Rattle.regex.specs.Patterns.{Match, span}
use Rattle.span_token.specs.Documents.{Doc, text_in}
use Rattle.span_token.specs.Extents.{Extent}
use Rattle.aql_regex_extract.specs.Matches.{placed, row_of, matches_of, match_rows, flat_rows}

-- with group 0 alone, the rows one after another are the extents of the matches
pub flat_rows-whole : (pattern : List ℕ) (d : Doc) (source : Extent) →
    flat_rows pattern d source (0 ∷ []) ≡ map (λ m. placed d source (Some (span m))) (matches_of pattern (text_in d source))
flat_rows-whole pattern d source =
    flat_map_single (λ (m : Match). placed d source (Some (span m))) (matches_of pattern (text_in d source))

pub joined : (f : Match → List (Option Extent)) (ms : List Match) → flat_map f ms ≡ flat_map (λ row. row) (map f ms)
joined f [] = refl
joined f (m ∷ ms) = ap (λ rest. f m ++ rest) (joined f ms)

-- the rows one after another are the rows, joined
pub flat_rows-joined : (pattern : List ℕ) (d : Doc) (source : Extent) (groups : List ℕ) →
    flat_rows pattern d source groups ≡ flat_map (λ row. row) (match_rows pattern d source groups)
flat_rows-joined pattern d source groups = joined (row_of d source groups) (matches_of pattern (text_in d source))
