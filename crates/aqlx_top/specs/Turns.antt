-- How a run begins, and what sending leaves alone. Only private clauses cite this.
use Rattle.std.specs.Prelude.{◌≡◌, List, [], None}
use Rattle.row_values.specs.Outputs.{OutputNames}
use Rattle.algebra.specs.Plans.{Parts}
use Rattle.aqlx_top.specs.declared.run.Work.{Work}

-- a run of a plan at its beginning: nothing is read, looked at or pending
pub record Begins (work : Work) (outputs : List OutputNames) (plan : Parts) : Type 0 where
  pub plan_is : work.schedule ≡ plan
  pub outputs_are : work.layout ≡ outputs
  pub tables : work.tools ≡ plan.lists
  pub reader : work.reader ≡ record { ready = []; taken = 0; last = None }
  pub pending : work.pending.items ≡ []
  pub number : work.number ≡ 0

-- what sending leaves alone
pub record IsKept (before now : Work) : Type 0 where
  pub schedule : now.schedule ≡ before.schedule
  pub layout : now.layout ≡ before.layout
  pub tools : now.tools ≡ before.tools
  pub reader : now.reader ≡ before.reader
  pub number : now.number ≡ before.number
