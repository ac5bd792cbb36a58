use Rattle.std.proofs.Common.{◌≡◌, take}
use Rattle.std.specs.List.{filter, flat_map}
use Rattle.row_values.specs.Rows.{RowsLieIn}
use Rattle.algebra.specs.Operators.{followed, sought_by}
use Rattle.plan_operators.specs.Neighbourhoods.{does_meet}
use Rattle.plan_operators.proofs.restricted.restricted.Given as goal

abbrev pub invariant-loop-row : goal.invariant-loop-row
invariant-loop-row l = record {
  width : l.found.width ≡ 2;
  lies : RowsLieIn l.doc l.found.rows;
  same : l.tools ≡ l.fn.tools;
  kept : filter (does_meet l.doc l.kind l.outer.rows l.lc) l.found.rows
      ≡ filter (does_meet l.doc l.kind l.outer.rows l.lc) (flat_map (followed l.fn.tools l.doc (sought_by l.local)) (take l.row-index l.row-items));
}
