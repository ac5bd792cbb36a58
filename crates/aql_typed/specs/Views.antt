-- How definitions see the typed tree of the code.
use Rattle.std.specs.Prelude.{option_map}
use Rattle.scalar_ops.specs.Views.{term_of}
use Rattle.aql_typed.specs.declared.tree.Consolidate.{Consolidate}
use Rattle.aql_typed.specs.declared.tree.Projection as declared_projection
use Rattle.aql_typed.specs.declared.tree.Projection.TheVariants as projection
use Rattle.aql_typed.specs.declared.tree.SelectClauses as declared_select
use Rattle.aql_typed.specs.declared.tree.Extraction as declared_extraction
use Rattle.aql_typed.specs.declared.tree.Extraction.TheVariants as extraction
use Rattle.aql_typed.specs.declared.tree.ExtractClauses as declared_extract
use Rattle.aql_typed.specs.declared.tree.TypedQuery.{TypedQuery, Row_of-TypedQuery, end_of-TypedQuery, more_of-TypedQuery}
use Rattle.aql_typed.specs.declared.tree.TypedQuery.TheVariants as query
use Rattle.aql_typed.specs.declared.tree.TypedSelect.{Row_of-TypedSource, end_of-TypedSource, more_of-TypedSource}
use Rattle.aql_typed.specs.declared.tree.TypedSource.{TypedSource}
use Rattle.aql_typed.specs.declared.tree.TypedSource.TheVariants as source
use Rattle.aql_typed.specs.declared.tree.TypedView.{TypedView}
use Rattle.aql_typed.specs.Trees.{Consolidation, Projection, plain, grouped_by, SelectClauses, Extraction, regex, token_regex, dict, blocks, ExtractClauses, Query, select, extract, union, minus, Queries, no_queries, more_queries, Source, document, view, nested, Sources, no_sources, more_sources}

abbrev pub consolidation_of : Consolidate → Consolidation
consolidation_of c = record { policy = c.policy; target = term_of c.target }

abbrev pub projection_of : declared_projection.Projection → Projection
projection_of (projection.Plain items) = plain items
projection_of (projection.Grouped keys arguments aggregates) = grouped_by keys arguments aggregates.items

abbrev pub select_clauses_of : declared_select.SelectClauses → SelectClauses
select_clauses_of clauses = record {
  conds = clauses.conds;
  consolidate = option_map consolidation_of clauses.consolidate;
  projection = projection_of clauses.projection;
  order = clauses.order.items;
  limit = clauses.limit;
}

abbrev pub extraction_of : declared_extraction.Extraction → Extraction
extraction_of (extraction.Regex column pattern groups) = regex column pattern groups.items
extraction_of (extraction.TokenRegex column low high pattern groups) = token_regex column low high pattern groups.items
extraction_of (extraction.Dict column number) = dict column number
extraction_of (extraction.Blocks column low high gap_low gap_high tokens) = blocks column low high gap_low gap_high tokens

abbrev pub extract_clauses_of : declared_extract.ExtractClauses → ExtractClauses
extract_clauses_of clauses = record {
  items = clauses.items;
  extraction = extraction_of clauses.extraction;
  conds = clauses.conds;
  consolidate = option_map consolidation_of clauses.consolidate;
  limit = clauses.limit;
}

abbrev mutual
  pub query_of : TypedQuery → Query
  query_of (query.Select' shape sources clauses) = select (sources_of sources) (select_clauses_of clauses)
  query_of (query.Extract' source clauses) = extract (source_of source) (extract_clauses_of clauses)
  query_of (query.Union' shape sides) = union (queries_of sides)
  query_of (query.Minus' left_box left right_box right) = minus (query_of left) (query_of right)

  pub queries_of : {n : _} → Row_of-TypedQuery n → Queries
  queries_of end_of-TypedQuery = no_queries
  queries_of (more_of-TypedQuery side rest) = more_queries (query_of side) (queries_of rest)

  pub source_of : TypedSource → Source
  source_of source.Document = document
  source_of (source.View number) = view number
  source_of (source.Nested' box query) = nested (query_of query)

  pub sources_of : {n : _} → Row_of-TypedSource n → Sources
  sources_of end_of-TypedSource = no_sources
  sources_of (more_of-TypedSource source rest) = more_sources (source_of source) (sources_of rest)

-- the bodies of the views, by their numbers
abbrev pub body_of : TypedView → Query
body_of v = query_of v.body
