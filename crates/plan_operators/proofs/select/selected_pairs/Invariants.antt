use Rattle.std.proofs.Common.{◌≡◌, ◌+◌, ◌++◌, map, take}
use Rattle.std.specs.List.{flat_map}
use Rattle.scalar_ops.specs.Views.{term_of}
use Rattle.aql_typed.specs.Meaning.{selected}
use Rattle.plan_operators.proofs.select.selected_pairs.Given as goal

abbrev pub invariant-loop-row : goal.invariant-loop-row
invariant-loop-row l = record {
  rows : l.out.rows ≡ flat_map (λ row. selected l.fn.tools l.doc (map term_of l.conds) (map (λ other. row ++ other) l.right.rows)) (take l.row-index l.row-items);
  width : l.out.width ≡ l.left.width + l.right.width;
  same : l.tools ≡ l.fn.tools;
}
