use Rattle.std.proofs.Common.{◌≡◌, map, take, All}
use Rattle.row_values.specs.Datums.{IsOfDocument}
use Rattle.scalar_ops.specs.Views.{term_of}
use Rattle.aql_typed.specs.Meaning.{row_of}
use Rattle.row_operators.proofs.values.values_for.Given as goal

abbrev pub invariant-loop-item : goal.invariant-loop-item
invariant-loop-item l = record {
  found : l.found ≡ row_of l.fn.tools l.doc (map term_of (take l.item-index l.items)) l.row;
  lies : All (IsOfDocument l.doc) l.found;
  same : l.tools ≡ l.fn.tools;
}
