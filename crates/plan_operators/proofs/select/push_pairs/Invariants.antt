use Rattle.std.proofs.Common.{◌≡◌, ◌++◌, map, take}
use Rattle.scalar_ops.specs.Views.{term_of}
use Rattle.aql_typed.specs.Meaning.{selected}
use Rattle.plan_operators.proofs.select.push_pairs.Given as goal

abbrev pub invariant-loop-other : goal.invariant-loop-other
invariant-loop-other l = record {
  rows : l.into.rows ≡ l.fn.into.rows ++ selected l.fn.tools l.doc (map term_of l.conds) (map (λ other. l.row ++ other) (take l.other-index l.other-items));
  width : l.into.width ≡ l.fn.into.width;
  same : l.tools ≡ l.fn.tools;
}
