use Rattle.std.proofs.Common.{◌≡◌, ◌++◌, map, take, length, All}
use Rattle.span_token.specs.Documents.{Doc}
use Rattle.row_values.specs.Datums.{IsOfDocument}
use Rattle.aql_regex_extract.specs.Matches.{extents_of}
use Rattle.scalar_ops.specs.Tables.{Lists}
use Rattle.scalar_ops.specs.Views.{term_of}
use Rattle.aql_typed.specs.Meaning.{group_value, row_of}
use Rattle.row_operators.specs.Searches.{IsFoundIn}
use Rattle.row_operators.proofs.found.push_columns.Given as goal

abbrev pub invariant-loop-item : goal.invariant-loop-item
invariant-loop-item l = record {
  row : (lists : Lists) (doc : Doc) → l.row ≡ row_of lists doc (map term_of (take l.item-index l.items)) (l.lead ++ map group_value (extents_of l.groups));
  lies : (doc : Doc) → All (IsOfDocument doc) l.lead → All (IsFoundIn doc) l.groups → All (IsOfDocument doc) l.row;
  long : length l.row ≡ l.item-index;
}
