use Rattle.std.proofs.Common.{◌≡◌, ◌+◌, map, take, length}
use Rattle.std.specs.List.{flat_map}
use Rattle.row_values.specs.Rows.{RowsLieIn}
use Rattle.scalar_ops.specs.Views.{term_of}
use Rattle.aql_typed.specs.Fitting.{found_width}
use Rattle.aql_typed.specs.Meaning.{extracted_from}
use Rattle.row_operators.specs.Searches.{extraction_for}
use Rattle.aql_meaning.proofs.extract.each_extracted.Given as goal

abbrev pub invariant-loop-row : goal.invariant-loop-row
invariant-loop-row l = record {
  rows : l.out.rows ≡ flat_map (extracted_from l.fn.tools l.doc (map term_of l.items) (extraction_for l.search)) (take l.row-index l.rows);
  width : l.out.width ≡ length l.items + found_width (extraction_for l.search);
  lies : RowsLieIn l.doc l.out.rows;
  same : l.tools ≡ l.fn.tools;
}
