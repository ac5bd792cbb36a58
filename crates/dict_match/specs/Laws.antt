-- What the relations and the functions of dictionaries say of each other, and where the matches lie.
use Rattle.std.specs.Prelude.{◌≡◌, ℕ, List}
use Rattle.std.specs.Bool.{Decides}
use Rattle.std.specs.List.{All}
use Rattle.span_token.specs.Documents.{Doc}
use Rattle.span_token.specs.Extents.{Extent}
use Rattle.span_token.specs.Relations.{ContainsExtent}
use Rattle.span_token.specs.SourceTokens.{tokens_in}
use Rattle.dict_match.specs.declared.dict_use.DictUse.{DictUse}
use Rattle.dict_match.specs.Dictionaries.{AgreesWith, IsMatch, AreMatches}
use Rattle.dict_match.specs.DictMatches.{does_agree, dict_matches, does_match}
use Rattle.dict_match.specs.LawProofs.InsideLemmas as inside
use Rattle.dict_match.specs.LawProofs.MatchLaws as matches

-- whether tokens agree with an entry is decided by a test
pub does_agree-Decides : (dict : DictUse) (texts : List (List ℕ)) → Decides (does_agree dict texts) (AgreesWith dict texts)
does_agree-Decides = matches.does_agree-Decides

-- the function gives exactly the matches
pub dict_matches-are : (dict : DictUse) (d : Doc) (source : Extent) → AreMatches dict d source (dict_matches dict d source)
dict_matches-are = matches.dict_matches-are

-- and no other list has exactly them
pub dict_matches-only : (dict : DictUse) (d : Doc) (source : Extent) (extents : List Extent) → AreMatches dict d source extents → extents ≡ dict_matches dict d source
dict_matches-only = matches.dict_matches-only

-- whether there is a match is decided by a test
pub does_match-Decides : (dict : DictUse) (d : Doc) (source : Extent) → Decides (does_match dict d source) ((e : Extent) × IsMatch dict d (tokens_in d source) e)
does_match-Decides = matches.does_match-Decides

-- a match lies in the source
pub match-inside : (dict : DictUse) (d : Doc) (source e : Extent) → IsMatch dict d (tokens_in d source) e → ContainsExtent source e
match-inside = inside.match-inside

-- so all of them do
pub dict_matches-inside : (dict : DictUse) (d : Doc) (source : Extent) → All (ContainsExtent source) (dict_matches dict d source)
dict_matches-inside dict d source = inside.rows-inside dict d source (dict_matches dict d source) (matches.dict_matches-are dict d source)
