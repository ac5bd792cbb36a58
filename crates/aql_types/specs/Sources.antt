-- How definitions see sources and queries without a fault.
use Rattle.std.specs.Prelude.{List, []}
use Rattle.aql_syntax.specs.Views.{name_of}
use Rattle.aql_typed.specs.Views.{source_of, query_of}
use Rattle.aql_typed.specs.declared.tree.Column.{Column}
use Rattle.aql_types.specs.declared.below.Below as declared_below
use Rattle.aql_types.specs.declared.below.Columns.{Columns}
use Rattle.aql_types.specs.declared.below.Columns.TheVariants as columns
use Rattle.aql_types.specs.declared.source.CheckedQuery.{CheckedQuery}
use Rattle.aql_types.specs.declared.source.CheckedSource.{CheckedSource}
use Rattle.aql_types.specs.Queries.{Below}
use Rattle.aql_types.specs.QueryTypings.{QueryTyping, SourceTyping}

abbrev pub columns_seen : Columns → List Column
columns_seen (columns.OfView lent) = lent.now
columns_seen (columns.Own own) = own.items

abbrev pub source_seen : CheckedSource → SourceTyping
source_seen source = record { alias = name_of source.alias; faults = []; columns = columns_seen source.columns; body = source_of source.body }

abbrev pub query_seen : CheckedQuery → QueryTyping
query_seen query = record { at = query.at; faults = []; columns = query.columns.items; body = query_of query.body }

abbrev pub below_seen : declared_below.Below → Below
below_seen below = record { columns = columns_seen below.columns; body = source_of below.body }
