use Rattle.std.proofs.Common.{◌≡◌, map, take}
use Rattle.scalar_ops.specs.Expressions.{column}
use Rattle.scalar_ops.specs.Views.{term_of}
use Rattle.push_select.proofs.below.plain_columns.Given as goal

abbrev pub invariant-loop-item : goal.invariant-loop-item
invariant-loop-item l = map term_of (take l.item-index l.items) ≡ map column l.shown.items
