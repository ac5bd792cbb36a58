-- What a pattern finds in a text, and in the text of an extent of a document.
use Rattle.std.specs.Prelude.{◌≡◌, ℕ, zero, suc, ◌++◌, length, Bool, List, [], map, Option, Some, None, option_map, option_and_then, is_some, IfSome}
use Rattle.std.specs.List.{flat_map}
use Rattle.regex.specs.Patterns.{Re, Match, find_str, find_all_str, span}
use Rattle.regex.specs.Writes.{group_of}
use Rattle.span_token.specs.Documents.{Doc, text_in, moved}
use Rattle.span_token.specs.Extents.{Extent, extent_of}
use Rattle.span_token.specs.Relations.{ContainsExtent}
use Rattle.std.specs.declared.vec.Vec.{Vec}
use Rattle.span_token.specs.declared.span.Span.{Span}
use Rattle.aql_regex_extract.specs.Patterns.{tree_of}

-- all successive matches of a tree in a text, from the left; a tree that isn't there has none
abbrev pub matches_by : Option Re → List ℕ → List Match
matches_by None text = []
matches_by (Some tree) text = find_all_str tree text

-- all successive matches of a pattern in a text
abbrev pub matches_of : List ℕ → List ℕ → List Match
matches_of pattern text = matches_by (tree_of pattern) text

-- the first match
abbrev pub first_match : List ℕ → List ℕ → Option Match
first_match pattern text = option_and_then (λ tree. find_str tree text 0) (tree_of pattern)

-- the pattern matches somewhere in the text
abbrev pub has_match : List ℕ → List ℕ → Bool
has_match pattern text = is_some (first_match pattern text)

-- the bytes of the text that a group spans in a match, if it takes part; group 0 is the whole match
abbrev pub group_in : Match → ℕ → Option (ℕ × ℕ)
group_in m zero = Some (span m)
group_in m (suc n) = group_of m (suc n)

-- bytes of an extent's text as an extent of the document
abbrev pub placed : Doc → Extent → Option (ℕ × ℕ) → Option Extent
placed d source = option_map (λ (from, to). moved d source from to)

-- for each asked group the extent of the bytes that it spans, None for one that takes no part
abbrev pub row_by : Doc → Extent → List ℕ → (ℕ → Option (ℕ × ℕ)) → List (Option Extent)
row_by d source groups group_span = map (λ group. placed d source (group_span group)) groups

-- a match as a row
abbrev pub row_of : Doc → Extent → List ℕ → Match → List (Option Extent)
row_of d source groups m = row_by d source groups (group_in m)

-- the row of each match of a pattern in the text of an extent
abbrev pub match_rows : List ℕ → Doc → Extent → List ℕ → List (List (Option Extent))
match_rows pattern d source groups = map (row_of d source groups) (matches_of pattern (text_in d source))

-- the same rows, one after another
abbrev pub flat_rows : List ℕ → Doc → Extent → List ℕ → List (Option Extent)
flat_rows pattern d source groups = flat_map (row_of d source groups) (matches_of pattern (text_in d source))

-- rows were put after the others, one after another, and `number` says how many
abbrev pub PutsRows : List (List (Option Extent)) → List (Option Extent) → List (Option Extent) → ℕ → Type 0
PutsRows rows old new number = (number ≡ length rows) × (new ≡ old ++ flat_map (λ row. row) rows)

-- what spans say, where there are some
abbrev pub extents_of : List (Option Span) → List (Option Extent)
extents_of = map (option_map extent_of)

-- a span, where there is one, lies in the source
abbrev pub IsInside : Extent → Option Span → Type 0
IsInside source o = IfSome o (λ s. ContainsExtent source (extent_of s))

-- what the spans of each row say
abbrev pub extents_of_rows : {A : Type 0} → List (Vec (Option Span) A) → List (List (Option Extent))
extents_of_rows = map (λ row. extents_of row.items)
