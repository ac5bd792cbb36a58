use Rattle.std.proofs.Common.{◌≡◌, true, take}
use Rattle.scalar_ops.specs.Values.{holding}
use Rattle.aql_meaning.specs.Nests.{terms_lent}
use Rattle.aql_meaning.proofs.combine.all_hold.Given as goal

abbrev pub invariant-loop-cond : goal.invariant-loop-cond
invariant-loop-cond l = record {
  so_far : holding l.fn.tools l.doc (terms_lent (take l.cond-index l.conds)) l.row ≡ true;
  same : l.tools ≡ l.fn.tools;
}
