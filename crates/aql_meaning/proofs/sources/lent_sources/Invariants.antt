use Rattle.std.proofs.Common.{◌≡◌, map, take}
use Rattle.std.specs.List.{All, AllZip}
use Rattle.span_token.specs.Documents.{Doc}
use Rattle.row_values.specs.Rows.{RowsLieIn}
use Rattle.scalar_ops.specs.Tables.{Lists}
use Rattle.aql_typed.specs.Views.{source_of}
use Rattle.aql_meaning.specs.RowLists.{AllLieIn}
use Rattle.aql_meaning.specs.Sources.{IsOwnOf, source_list}
use Rattle.aql_meaning.proofs.sources.lent_sources.Given as goal

abbrev pub invariant-loop-i : goal.invariant-loop-i
invariant-loop-i l = record {
  lists : (lists : Lists) (doc : Doc) → AllZip (λ source own. IsOwnOf lists doc l.below (source_of source) own) l.sources l.own
      → map (λ list. list.now) l.lists.items ≡ map (λ source. source_list lists doc l.below (source_of source)) (take l.i l.sources);
  lies : (doc : Doc) → AllLieIn doc l.below → AllLieIn doc l.own → All (λ list. RowsLieIn doc list.now.rows) l.lists.items;
}
