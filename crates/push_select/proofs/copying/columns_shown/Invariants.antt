use Rattle.std.proofs.Common.{◌≡◌, map, take}
use Rattle.scalar_ops.specs.Expressions.{column}
use Rattle.scalar_ops.specs.Views.{term_of}
use Rattle.push_select.proofs.copying.columns_shown.Given as goal

abbrev pub invariant-loop-n : goal.invariant-loop-n
invariant-loop-n l = map term_of l.items.items ≡ map column (take l.n-index l.shown)
