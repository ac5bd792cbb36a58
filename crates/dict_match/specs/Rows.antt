-- The matches of several dictionaries.
use Rattle.std.specs.Prelude.{◌≡◌, ◌++◌, ◌<◌, ℕ, ◌==◌, List, map, length, slice_get, slice_index_or, Some, []}
use Rattle.std.specs.List.{All, filter}
use Rattle.span_token.specs.Documents.{Doc}
use Rattle.span_token.specs.Extents.{Extent, extent_of}
use Rattle.span_token.specs.Relations.{ContainsExtent}
use Rattle.std.specs.declared.vec.Vec.{Vec}
use Rattle.span_token.specs.declared.span.Span.{Span}
use Rattle.dict_match.specs.declared.dict_use.DictUse.{DictUse}
use Rattle.dict_match.specs.declared.walk.DictMatch.{DictMatch}
use Rattle.dict_match.specs.Dictionaries.{AreMatches}
use Rattle.dict_match.specs.DictMatches.{dict_matches}

-- a match as the number of its dictionary and its extent
abbrev pub dict_and_extent : DictMatch → ℕ × Extent
dict_and_extent m = (m.dict, extent_of m.span)

-- the extents of one dictionary's matches
abbrev pub extents_for : ℕ → List (ℕ × Extent) → List Extent
extents_for dict ms = map (λ m. m.1) (filter (λ m. m.0 == dict) ms)

-- what the spans of each row say
abbrev pub extents_of_rows : {A : Type 0} → List (Vec Span A) → List (List Extent)
extents_of_rows = map (λ row. map extent_of row.items)

-- for each dictionary, exactly its matches
pub record AreRowsOfEach (dicts : List DictUse) (d : Doc) (source : Extent) (rows : List (List Extent)) : Type 0 where
  pub number : length rows ≡ length dicts
  pub each : (i : ℕ) (dict : DictUse) → slice_get dicts i ≡ Some dict → AreMatches dict d source (slice_index_or rows i [])

-- for each dictionary exactly its matches are put behind what a list has, those of several dictionaries among one another
pub record AppendsMatches (dicts : List DictUse) (d : Doc) (source : Extent) (old new : List (ℕ × Extent)) : Type 0 where
  pub added : List (ℕ × Extent)
  pub after : new ≡ old ++ added
  pub below : All (λ (m : ℕ × Extent). m.0 < length dicts) added
  pub within : All (λ (m : ℕ × Extent). ContainsExtent source m.1) added
  pub each : (i : ℕ) (dict : DictUse) → slice_get dicts i ≡ Some dict → AreMatches dict d source (extents_for i added)
  pub listed : (i : ℕ) (dict : DictUse) → slice_get dicts i ≡ Some dict → extents_for i added ≡ dict_matches dict d source
