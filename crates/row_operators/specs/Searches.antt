-- What a search in a row looks for, what it wants, and where what is found lies.
use Rattle.std.specs.Prelude.{◌≤◌, Option, option_map}
use Rattle.span_token.specs.Documents.{Doc}
use Rattle.span_token.specs.Extents.{extent_of}
use Rattle.span_token.specs.declared.span.Span.{Span}
use Rattle.row_values.specs.Datums.{IsOfDocument}
use Rattle.aql_typed.specs.Trees.{Extraction, regex, token_regex, dict}
use Rattle.aql_typed.specs.Meaning.{group_value}
use Rattle.row_operators.specs.declared.search.Search.{Search}
use Rattle.row_operators.specs.declared.search.Search.TheVariants as search

-- the extraction that a search is
abbrev pub extraction_for : Search → Extraction
extraction_for (search.Regex column pattern groups) = regex column pattern groups.now
extraction_for (search.TokenRegex column low high pattern groups) = token_regex column low high pattern groups.now
extraction_for (search.Dict column number) = dict column number

-- a run of tokens has one token or more
abbrev pub HasRuns : Extraction → Type 0
HasRuns (token_regex column low high p groups) = 1 ≤ low
HasRuns extraction = Unit {0}

-- the span of a group, where it takes part, lies in the document
abbrev pub IsFoundIn : Doc → Option Span → Type 0
IsFoundIn doc o = IsOfDocument doc (group_value (option_map extent_of o))
