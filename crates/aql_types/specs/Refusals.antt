-- What a refusal says of a list of a program's faults: it is the first, or memory ran out.
use Rattle.std.specs.Prelude.{◌≡◌, ℕ, List, Some}
use Rattle.span_token.specs.declared.refusal.Failure.{Failure}
use Rattle.span_token.specs.declared.refusal.Failure.TheVariants.{OutOfMemory, Fault}
use Rattle.clause_types.specs.declared.fault.Breach.{Breach}
use Rattle.clause_types.specs.Faults.{first}
use Rattle.aql_types.specs.declared.fault.TypeFault.{TypeFault}
use Rattle.aql_types.specs.Programs.{fault_in}

abbrev pub BeginsProgram : List TypeFault → Failure TypeFault → Type 0
BeginsProgram faults OutOfMemory = Unit {0}
BeginsProgram faults (Fault fault) = first faults ≡ Some fault

pub record IsFirstFault (faults : List TypeFault) (failure : Failure TypeFault) : Type 0 where
  pub is : BeginsProgram faults failure

-- a refusal of a part in the statement with this number
abbrev pub told : ℕ → Failure Breach → Failure TypeFault
told number OutOfMemory = OutOfMemory
told number (Fault breach) = Fault (fault_in number breach)
