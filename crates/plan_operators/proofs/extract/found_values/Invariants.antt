use Rattle.std.proofs.Common.{◌≡◌, ◌++◌, map, take, length}
use Rattle.std.specs.List.{flat_map}
use Rattle.row_values.specs.Rows.{RowsLieIn}
use Rattle.scalar_ops.specs.Views.{term_of}
use Rattle.aql_typed.specs.Meaning.{found_in, group_value, row_of}
use Rattle.row_operators.specs.Searches.{extraction_for}
use Rattle.plan_operators.proofs.extract.found_values.Given as goal

abbrev pub invariant-loop-row : goal.invariant-loop-row
invariant-loop-row l = record {
  rows : l.out.rows ≡ flat_map (λ row. map (λ groups. row_of l.fn.tools l.doc (map term_of l.items) (row ++ map group_value groups)) (found_in l.fn.tools l.doc (extraction_for l.search) row)) (take l.row-index l.row-items);
  width : l.out.width ≡ length l.items;
  lies : RowsLieIn l.doc l.out.rows;
  same : l.tools ≡ l.fn.tools;
}
