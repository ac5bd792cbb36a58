use Rattle.std.proofs.Common.{◌≡◌, take, map, vec_len}
use Rattle.row_values.specs.Datums.{span_of}
use Rattle.span_sets.specs.Consolidation.{target_of}
use Rattle.scalar_ops.specs.Values.{value}
use Rattle.scalar_ops.specs.Views.{term_of}
use Rattle.plan_operators.proofs.consolidation.targets_of.Given as goal

abbrev pub invariant-loop-row : goal.invariant-loop-row
invariant-loop-row l = record {
  targets : map target_of l.targets.items ≡ map (λ row. span_of (value l.fn.tools l.doc row.now (term_of l.target))) (take l.row-index l.rows);
  number : vec_len l.targets ≡ l.row-index;
  same : l.tools ≡ l.fn.tools;
}
