use Rattle.std.proofs.Common.{◌≡◌, ◌++◌, map, take, drop}
use Rattle.std.specs.List.{AllZip}
use Rattle.row_values.specs.Rows.{RowsLieIn}
use Rattle.aql_typed.specs.Fitting.{first_width}
use Rattle.aql_typed.specs.Meaning.{all_sides}
use Rattle.aql_typed.specs.Trees.{as_queries}
use Rattle.aql_typed.specs.Views.{query_of, source_of}
use Rattle.aql_meaning.specs.RowLists.{rows_in, widths_in, AllLieIn}
use Rattle.aql_meaning.specs.Sources.{IsOwnOf}
use Rattle.aql_meaning.proofs.query.+query.Given as goal

abbrev pub invariant-own_sources-loop-source : goal.invariant-own_sources-loop-source
invariant-own_sources-loop-source l = record {
  own : AllZip (λ source own. IsOwnOf l.fn.tools l.doc l.below (source_of source) own) (take l.source-index l.sources) l.own.items;
  lies : AllLieIn l.doc l.own.items;
  same : l.tools ≡ l.fn.tools;
}

-- what is there, with what is left
abbrev pub invariant-union-loop-side : goal.invariant-union-loop-side
invariant-union-loop-side l = record {
  rows : l.out.rows ++ all_sides l.fn.tools l.doc (rows_in l.below) (as_queries (map query_of (drop l.side-index l.rest)))
      ≡ all_sides l.fn.tools l.doc (rows_in l.below) (as_queries (map query_of l.sides));
  width : l.out.width ≡ first_width (widths_in l.below) (as_queries (map query_of l.sides));
  lies : RowsLieIn l.doc l.out.rows;
  same : l.tools ≡ l.fn.tools;
}
