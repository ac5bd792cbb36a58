use Rattle.std.proofs.Common.{◌≡◌, ◌++◌, ◌+◌, map, take}
use Rattle.scalar_ops.specs.Expressions.{column}
use Rattle.scalar_ops.specs.Views.{term_of}
use Rattle.restrict_eval.proofs.rebuilding.push_behind.Given as goal

abbrev pub invariant-loop-n : goal.invariant-loop-n
invariant-loop-n l = map term_of l.items.items ≡ map term_of l.fn.items.items ++ map column (map (λ c. l.width + c) (take l.n-index l.columns))
