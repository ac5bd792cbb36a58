use Rattle.std.proofs.Common.{◌≡◌, ◌++◌, map, length}
use Rattle.std.specs.List.{All}
use Rattle.row_values.specs.Rows.{RowsLieIn}
use Rattle.scalar_ops.specs.Views.{term_of}
use Rattle.aql_typed.specs.Meaning.{selected}
use Rattle.row_operators.proofs.keep.selected.Given as goal

abbrev pub invariant-loop-row : goal.invariant-loop-row
invariant-loop-row l = record {
  rows : l.out.rows ++ selected l.fn.tools l.doc (map term_of l.conds) l.row-iterator.rest.items ≡ selected l.fn.tools l.doc (map term_of l.conds) l.fn.rows.rows;
  width : l.out.width ≡ l.fn.rows.width;
  wide : All (λ row. length row ≡ l.out.width) l.row-iterator.rest.items;
  lies : RowsLieIn l.doc l.out.rows;
  left_lie : RowsLieIn l.doc l.row-iterator.rest.items;
  same : l.tools ≡ l.fn.tools;
}
