-- What a refusal says.
use Rattle.span_token.specs.declared.refusal.Failure.{Failure}
use Rattle.span_token.specs.declared.refusal.Failure.TheVariants.{OutOfMemory, Fault}

-- of a `Failure`: nothing of want of memory, and `P` of the fault
abbrev pub OfFault : {F : Type 0} → (F → Type 0) → Failure F → Type 0
OfFault P OutOfMemory = Unit {0}
OfFault P (Fault fault) = P fault

-- the same refusal, with a fault that is `P` of the other's
abbrev pub Renames : {F G : Type 0} → (F → G → Type 0) → Failure F → Failure G → Type 0
Renames P OutOfMemory OutOfMemory = Unit {0}
Renames P OutOfMemory (Fault g) = ⊥
Renames P (Fault f) OutOfMemory = ⊥
Renames P (Fault f) (Fault g) = P f g
