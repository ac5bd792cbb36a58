use Rattle.std.proofs.Common.{◌≡◌, map, take, length}
use Rattle.row_values.specs.Rows.{RowsLieIn}
use Rattle.scalar_ops.specs.Views.{term_of}
use Rattle.aql_typed.specs.Meaning.{row_of}
use Rattle.algebra.specs.Operators.{part_of}
use Rattle.plan_operators.proofs.dict_part.part_values.Given as goal

abbrev pub invariant-loop-row : goal.invariant-loop-row
invariant-loop-row l = record {
  rows : l.out.rows ≡ map (row_of l.fn.tools l.doc (map term_of l.items)) (part_of l.number (take l.row-index l.row-items));
  width : l.out.width ≡ length l.items;
  lies : RowsLieIn l.doc l.out.rows;
  same : l.tools ≡ l.fn.tools;
}
