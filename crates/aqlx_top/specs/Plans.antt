-- The plan of a program's text.
use Rattle.std.specs.Prelude.{ℕ, List}
use Rattle.algebra.specs.Plans.{Parts}
use Rattle.plan_maker.specs.Promised.{IsNormal}
use Rattle.plan_maker.specs.Shown.{ShowsProgram}
use Rattle.aqlx_top.specs.ProgramFaults.{HoldsProgram}
use Rattle.aqlx_top.specs.Run.{Program}

-- the text holds a program, without a fault, and this is its plan, which is made of its typed form and normal
pub record IsPlanOf (text : List ℕ) (plan : Parts) : Type 0 where
  pub program : Program
  pub holds : HoldsProgram text program
  pub shows : ShowsProgram holds.typed plan
  pub normal : IsNormal plan
