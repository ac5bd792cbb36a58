use Rattle.std.proofs.Common.{◌≡◌, ◌++◌, map}
use Rattle.scalar_ops.specs.Views.{term_of}
use Rattle.algebra.specs.ExtractionLaws.{columns_from}
use Rattle.restrict_eval.proofs.turning.push_columns.Given as goal

abbrev pub invariant-loop-n : goal.invariant-loop-n
invariant-loop-n l = map term_of l.items.items ≡ map term_of l.fn.items.items ++ columns_from l.first l.n
