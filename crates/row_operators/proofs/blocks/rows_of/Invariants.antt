use Rattle.std.proofs.Common.{◌≡◌, map, take}
use Rattle.span_token.specs.Extents.{extent_of}
use Rattle.row_values.specs.Rows.{RowsLieIn}
use Rattle.aql_typed.specs.Meaning.{one_column}
use Rattle.row_operators.proofs.blocks.rows_of.Given as goal

abbrev pub invariant-loop-span : goal.invariant-loop-span
invariant-loop-span l = record {
  rows : l.rows ≡ record { width = 1; rows = one_column (map extent_of (take l.span-index l.spans)) };
  lies : RowsLieIn l.doc l.rows.rows;
}
