-- One step of a search through the text of an extent: what it finds, and what it puts after the rows so far.
use Rattle.std.specs.Prelude.{◌≡◌, ℕ, zero, suc, ◌++◌, List, [], ◌∷◌, take, drop, Option, Some, None, Bool, is_some, unwrap_or, MatchOption, nat_le, if◌then◌else◌}
use Rattle.regex.specs.Patterns.{Match}
use Rattle.span_token.specs.Documents.{Doc}
use Rattle.span_token.specs.Extents.{Extent}
use Rattle.aql_regex_extract.specs.Matches.{row_of}

-- the row of a match that ends at or after `least`, and else nothing
abbrev pub row_from : ℕ → Doc → Extent → List ℕ → Match → List (Option Extent)
row_from least d source groups m = if nat_le least m.trace.end then row_of d source groups m else []

-- a match was found, and its row put after the others, if it ends at or after `least`
pub record PushesMatch (least : ℕ) (d : Doc) (source : Extent) (groups : List ℕ) (found : Option Match) (old new : List (Option Extent)) (end : ℕ) : Type 0 where
  pub it : Match
  pub is_found : found ≡ Some it
  pub ends : end ≡ it.trace.end
  pub pushed : new ≡ old ++ row_from least d source groups it

-- the answer of a search is the end of what was found
abbrev pub Pushes : ℕ → Doc → Extent → List ℕ → Option Match → List (Option Extent) → List (Option Extent) → Option ℕ → Type 0
Pushes least d source groups found old new answer =
    MatchOption answer ((found ≡ None) × (new ≡ old)) (PushesMatch least d source groups found old new)

-- a row, if there is one, is put after the others, and the answer says whether there is
abbrev pub PutsRow : Option (List (Option Extent)) → List (Option Extent) → List (Option Extent) → Bool → Type 0
PutsRow row old new answer = (answer ≡ is_some row) × (new ≡ old ++ unwrap_or row [])

-- a list in so many rows of `width` entries each, from the front on
abbrev pub cut_rows : {X : Type 0} → ℕ → ℕ → List X → List (List X)
cut_rows zero width xs = []
cut_rows (suc n) width xs = take width xs ∷ cut_rows n width (drop width xs)
