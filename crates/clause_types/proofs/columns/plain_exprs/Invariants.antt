use Rattle.std.proofs.Common.{◌≡◌, ◌++◌, map}
use Rattle.scalar_ops.specs.Views.{term_of}
use Rattle.clause_types.specs.Selections.{plain_terms}
use Rattle.clause_types.specs.Views.{item_seen}
use Rattle.clause_types.proofs.columns.plain_exprs.Given as goal

abbrev pub invariant-loop-item : goal.invariant-loop-item
invariant-loop-item l = map term_of l.exprs.items ++ plain_terms (map item_seen l.item-iterator.rest.items) ≡ plain_terms (map item_seen l.fn.items.items)
