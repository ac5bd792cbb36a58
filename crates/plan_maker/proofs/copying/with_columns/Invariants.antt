use Rattle.std.proofs.Common.{◌≡◌, ◌++◌, map}
use Rattle.scalar_ops.specs.Views.{term_of}
use Rattle.algebra.specs.ExtractionLaws.{columns_from}
use Rattle.plan_maker.proofs.copying.with_columns.Given as goal

abbrev pub invariant-loop-number : goal.invariant-loop-number
invariant-loop-number l = map term_of l.all.items ≡ map term_of l.items ++ columns_from l.first l.number
