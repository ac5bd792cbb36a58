use Rattle.std.proofs.Common.{◌++◌, map, take}
use Rattle.scalar_ops.specs.Views.{term_of}
use Rattle.aql_meaning.specs.Nests.{HoldAlike, terms_lent}
use Rattle.aql_meaning.proofs.nest.+parts.Given as goal

abbrev pub invariant-push_all_parts-loop-cond : goal.invariant-push_all_parts-loop-cond
invariant-push_all_parts-loop-cond l = HoldAlike (terms_lent l.into.items) (terms_lent l.fn.into.items ++ map term_of (take l.cond-index l.conds))
