use Rattle.std.proofs.Common.{◌≡◌, ◌++◌, map}
use Rattle.scalar_ops.specs.Views.{term_of}
use Rattle.clause_types.specs.Typings.{terms_meant}
use Rattle.clause_types.specs.Views.{seen}
use Rattle.clause_types.proofs.call.values.Given as goal

abbrev pub invariant-loop-arg : goal.invariant-loop-arg
invariant-loop-arg l = map term_of l.values.items ++ terms_meant (map seen l.arg-iterator.rest.items) ≡ terms_meant (map seen l.fn.args.items)
