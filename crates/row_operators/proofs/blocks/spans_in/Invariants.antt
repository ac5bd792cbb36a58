use Rattle.std.proofs.Common.{◌≡◌, map, take, All}
use Rattle.std.specs.List.{filter_map}
use Rattle.span_token.specs.Documents.{LiesIn}
use Rattle.span_token.specs.Extents.{extent_of}
use Rattle.row_values.specs.Rows.{span_in}
use Rattle.row_operators.proofs.blocks.spans_in.Given as goal

abbrev pub invariant-loop-row : goal.invariant-loop-row
invariant-loop-row l = record {
  spans : map extent_of l.spans.items ≡ filter_map (span_in l.column) (take l.row-index l.rows);
  lies : All (λ s. LiesIn (extent_of s) l.doc) l.spans.items;
}
