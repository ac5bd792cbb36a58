-- What the relation and the function of token runs say of each other, and what the rows one after another are.
use Rattle.std.specs.Prelude.{◌≡◌, ℕ, List, Option}
use Rattle.std.specs.List.{flat_map}
use Rattle.span_token.specs.Documents.{Doc}
use Rattle.span_token.specs.Extents.{Extent}
use Rattle.aql_regex_extract.specs.Matches.{match_rows, flat_rows}
use Rattle.aql_regex_extract.specs.TokenRuns.{AreRunRows, run_rows}
use Rattle.aql_regex_extract.specs.LawProofs.RowLaws as rows
use Rattle.aql_regex_extract.specs.LawProofs.RunRowsUnique as unique
use Rattle.aql_regex_extract.specs.LawProofs.TokenRunLaws as runs

-- the function gives the rows of the longest runs
pub run_rows-are : (pattern : List ℕ) (d : Doc) (source : Extent) (low high : ℕ) (groups : List ℕ) →
    AreRunRows pattern d source low high groups (run_rows pattern d source low high groups)
run_rows-are = runs.run_rows-are

-- and no other list has them
pub run_rows-only : (pattern : List ℕ) (d : Doc) (source : Extent) (low high : ℕ) (groups : List ℕ) (rows : List (List (Option Extent))) →
    AreRunRows pattern d source low high groups rows → rows ≡ run_rows pattern d source low high groups
run_rows-only = unique.run_rows-only

-- the rows of a pattern's matches, one after another
pub flat_rows-joined : (pattern : List ℕ) (d : Doc) (source : Extent) (groups : List ℕ) →
    flat_rows pattern d source groups ≡ flat_map (λ row. row) (match_rows pattern d source groups)
flat_rows-joined = rows.flat_rows-joined
