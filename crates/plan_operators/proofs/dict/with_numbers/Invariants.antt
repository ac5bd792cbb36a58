use Rattle.std.proofs.Common.{◌≡◌, ◌+◌, take}
use Rattle.std.specs.List.{flat_map}
use Rattle.row_values.specs.Rows.{RowsLieIn}
use Rattle.algebra.specs.Operators.{marked_in}
use Rattle.plan_operators.proofs.dict.with_numbers.Given as goal

abbrev pub invariant-loop-row : goal.invariant-loop-row
invariant-loop-row l = record {
  rows : l.out.rows ≡ flat_map (marked_in l.fn.tools l.doc l.column l.dicts) (take l.row-index l.row-items);
  width : l.out.width ≡ l.rows.width + 2;
  lies : RowsLieIn l.doc l.out.rows;
  same : l.tools ≡ l.fn.tools;
}
