-- What the plan by which a program is run keeps of it: its tables, and each output with its names and its meaning.
use Rattle.std.specs.Prelude.{◌≡◌}
use Rattle.std.specs.List.{AllZip}
use Rattle.algebra.specs.Plans.{Parts}
use Rattle.plan_maker.specs.Lowered.{Program, ShowsOutput}

-- the plan has the program's tables, and its outputs one by one
pub record ShowsProgram (program : Program) (plan : Parts) : Type 0 where
  pub lists : plan.lists ≡ program.1.0
  pub outputs : AllZip (ShowsOutput program plan) program.1.1 plan.outputs
