use Rattle.std.proofs.Common.{◌≡◌, ◌++◌, length}
use Rattle.std.specs.List.{All}
use Rattle.row_operators.proofs.sides.append_rows.Given as goal

abbrev pub invariant-loop-row : goal.invariant-loop-row
invariant-loop-row l = record {
  rows : l.into.rows ++ l.row-iterator.rest.items ≡ l.fn.into.rows ++ l.fn.rows.rows;
  width : l.into.width ≡ l.fn.into.width;
  wide : All (λ row. length row ≡ l.into.width) l.row-iterator.rest.items;
}
