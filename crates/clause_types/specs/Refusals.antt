-- What a refusal says of a list of faults: it is the first, or memory ran out.
use Rattle.std.specs.Prelude.{◌≡◌, List, Some}
use Rattle.span_token.specs.declared.refusal.Failure.{Failure}
use Rattle.span_token.specs.declared.refusal.Failure.TheVariants.{OutOfMemory, Fault}
use Rattle.clause_types.specs.declared.fault.Breach.{Breach}
use Rattle.clause_types.specs.Faults.{first}

abbrev pub BeginsWith : List Breach → Failure Breach → Type 0
BeginsWith faults OutOfMemory = Unit {0}
BeginsWith faults (Fault fault) = first faults ≡ Some fault

pub record IsFirst (faults : List Breach) (failure : Failure Breach) : Type 0 where
  pub is : BeginsWith faults failure
