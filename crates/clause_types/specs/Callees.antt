-- What is called: a function or an aggregate.
use Rattle.std.specs.Prelude.{List}
use Rattle.scalar_ops.specs.declared.kind.Kind.{Kind}
use Rattle.clause_types.specs.declared.wanted.Callee.{Callee}
use Rattle.clause_types.specs.declared.wanted.Callee.TheVariants as callee
use Rattle.clause_types.specs.declared.wanted.Wanted.{Wanted}
use Rattle.clause_types.specs.Functions.{wanted_by, wanted_by_aggregate}

-- what the arguments are wanted to be, where those that stand there are of the kinds `found`
abbrev pub wanted_of : Callee → List Kind → List Wanted
wanted_of (callee.Function f) found = wanted_by f found
wanted_of (callee.Aggregate a) found = wanted_by_aggregate a
