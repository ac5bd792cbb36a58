-- What a query and a view mean on a document: a list of rows. No plan, no operator and no order of evaluation
-- occurs here; as a bag, it is what is asked of every way to come to it.
use Rattle.std.specs.Prelude.{ℕ, List, [], ◌∷◌, ◌++◌, Option, Some, None, map, length, slice_index_or}
use Rattle.std.specs.List.{filter, filter_map, flat_map, range_with_len}
use Rattle.span_token.specs.Documents.{Doc, len_of}
use Rattle.span_token.specs.Extents.{Extent}
use Rattle.row_values.specs.Datums.{Datum, null, span, span_of}
use Rattle.row_values.specs.Rows.{span_in, sorted, product, minus as without}
use Rattle.aql_regex_extract.specs.Matches.{match_rows}
use Rattle.aql_regex_extract.specs.TokenRuns.{run_rows}
use Rattle.dict_match.specs.DictMatches.{dict_matches}
use Rattle.span_sets.specs.Blocks.{is_neighbour, blocks_of}
use Rattle.span_sets.specs.KeptRows.{consolidated}
use Rattle.group_agg.specs.Groups.{grouped}
use Rattle.group_agg.specs.Limits.{limited}
use Rattle.scalar_ops.specs.Expressions.{Term}
use Rattle.scalar_ops.specs.Extractions.{of_some, of_pattern, of_dict}
use Rattle.scalar_ops.specs.Tables.{Lists}
use Rattle.scalar_ops.specs.Values.{value, holding}
use Rattle.aql_typed.specs.Trees.{Consolidation, Projection, plain, grouped_by, SelectClauses, Extraction, regex, token_regex, dict, blocks, ExtractClauses, Query, select, extract, union, minus, Queries, no_queries, more_queries, Source, document, view, nested, Sources, no_sources, more_sources}

-- a row is a list of values, a result a list of rows
abbrev pub Rows : Type 0
Rows = List (List Datum)

-- the span of a group, Null for a group that takes no part
abbrev pub group_value : Option Extent → Datum
group_value None = null
group_value (Some e) = span e

-- one row for each span
abbrev pub one_column : List Extent → Rows
one_column = map (λ e. span e ∷ [])

-- the first rows, in row order
abbrev pub cut : List ℕ → Option ℕ → Rows → Rows
cut order None rows = rows
cut order (Some n) rows = sorted (limited order (Some n) rows)

module _ (lists : Lists) (doc : Doc) where
  -- the values of expressions for a row
  abbrev pub row_of : List Term → List Datum → List Datum
  row_of items row = map (value lists doc row) items

  -- the rows on which every condition holds
  abbrev pub selected : List Term → Rows → Rows
  selected conds rows = filter (holding lists doc conds) rows

  -- the rows that a consolidation keeps, in row order
  abbrev pub kept : Option Consolidation → Rows → Rows
  kept None rows = rows
  kept (Some c) rows = consolidated c.policy (λ row. span_of (value lists doc row c.target)) rows

  -- one row for each row, or for each group of rows, in row order
  abbrev pub projected : Projection → Rows → Rows
  projected (plain items) rows = map (row_of items) rows
  projected (grouped_by keys arguments aggregates) rows =
      sorted (grouped (range_with_len 0 (length keys)) aggregates (map (row_of (keys ++ arguments)) rows))

  -- what is found in one row of the source, one row of groups for each match in the span of the column; nothing where it
  -- has no span
  abbrev pub found_in : Extraction → List Datum → List (List (Option Extent))
  found_in (regex column p groups) row = of_some (λ source. of_pattern lists p (λ pattern. match_rows pattern doc source groups)) (span_in column row)
  found_in (token_regex column low high p groups) row =
      of_some (λ source. of_pattern lists p (λ pattern. run_rows pattern doc source low high groups)) (span_in column row)
  found_in (dict column d) row =
      of_some (λ source. map (λ e. Some e ∷ []) (of_dict lists d (λ dictionary. dict_matches dictionary doc source))) (span_in column row)
  found_in (blocks column low high from to tokens) row = []

  -- a row for each match in one row of the source: the items' values, followed by the spans of the groups
  abbrev pub extracted_from : List Term → Extraction → List Datum → Rows
  extracted_from items extraction row = map (λ found. row_of items row ++ map group_value found) (found_in extraction row)

  -- those of all rows; blocks stand for all rows together
  abbrev pub extracted : List Term → Extraction → Rows → Rows
  extracted items (blocks column low high from to tokens) rows =
      one_column (blocks_of (is_neighbour doc tokens from to) low high (filter_map (span_in column) rows))
  extracted items extraction rows = flat_map (extracted_from items extraction) rows

  -- a selection: of the combinations of its sources' rows
  abbrev pub select_rows : SelectClauses → Rows → Rows
  select_rows clauses rows =
      cut clauses.order clauses.limit (projected clauses.projection (kept clauses.consolidate (selected clauses.conds rows)))

  -- an extraction: of the rows of its source
  abbrev pub extract_rows : ExtractClauses → Rows → Rows
  extract_rows clauses rows =
      cut [] clauses.limit (kept clauses.consolidate (selected clauses.conds (extracted clauses.items clauses.extraction rows)))

  -- the document as a view: one row, the span of the whole text
  abbrev pub document_rows : Rows
  document_rows = (span (record { begin = 0; end = len_of doc }) ∷ []) ∷ []

  module _ (below : List Rows) where
    abbrev mutual
      -- what a query means, where `below` has what the views mean by their numbers
      pub meaning_of : Query → Rows
      meaning_of (select sources clauses) = select_rows clauses (combinations sources)
      meaning_of (extract source clauses) = extract_rows clauses (source_rows source)
      meaning_of (union sides) = all_sides sides
      meaning_of (minus left right) = without (meaning_of left) (meaning_of right)

      -- the rows of all sides, with their multiplicities
      pub all_sides : Queries → Rows
      all_sides no_queries = []
      all_sides (more_queries side sides) = meaning_of side ++ all_sides sides

      pub source_rows : Source → Rows
      source_rows document = document_rows
      source_rows (view n) = slice_index_or below n []
      source_rows (nested query) = meaning_of query

      -- one row of each source, side by side
      pub combinations : Sources → Rows
      combinations no_sources = [] ∷ []
      combinations (more_sources source sources) = product (source_rows source) (combinations sources)

  -- what the views mean, by their numbers: each stands on those before it
  abbrev pub meanings_from : List Rows → List Query → List Rows
  meanings_from below [] = below
  meanings_from below (body ∷ bodies) = meanings_from (below ++ meaning_of below body ∷ []) bodies

  abbrev pub meanings : List Query → List Rows
  meanings bodies = meanings_from [] bodies

  -- what an output means: a view by its number, or the document
  abbrev pub output_rows : List Query → Option ℕ → Rows
  output_rows bodies None = document_rows
  output_rows bodies (Some n) = slice_index_or (meanings bodies) n []
