use Rattle.std.proofs.Common.{◌≡◌, ◌++◌, map}
use Rattle.scalar_ops.specs.Views.{term_of}
use Rattle.clause_types.specs.Selections.{arguments_of}
use Rattle.clause_types.specs.Views.{item_seen}
use Rattle.clause_types.proofs.columns.arguments.Given as goal

abbrev pub invariant-loop-item : goal.invariant-loop-item
invariant-loop-item l = map term_of l.exprs.items ++ arguments_of (map item_seen l.item-iterator.rest.items) ≡ arguments_of (map item_seen l.fn.items.items)
