use Rattle.std.proofs.Common.{◌≡◌, map, take, not}
use Rattle.std.specs.List.{filter}
use Rattle.row_values.specs.Rows.{does_occur}
use Rattle.plan_operators.proofs.minus.absent_copies.Given as goal

abbrev pub invariant-loop-row : goal.invariant-loop-row
invariant-loop-row l = record {
  rows : l.out.rows ≡ filter (λ row. not (does_occur (map (λ other. other.now) l.others) row)) (take l.row-index l.row-items);
  width : l.out.width ≡ l.rows.width;
}
