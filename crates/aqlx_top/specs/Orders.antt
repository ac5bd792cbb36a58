-- Orders as the code has them. Only private clauses cite this.
use Rattle.std.specs.Prelude.{◌≤◌}
use Rattle.aqlx_top.specs.declared.words.Asked.{Asked}
use Rattle.aqlx_top.specs.declared.words.Order.{Order as Told}
use Rattle.aqlx_top.specs.declared.words.Order.TheVariants.{Run, Check, Plan, Gen, Demo}
use Rattle.aqlx_top.specs.Words.{Order, to_run, to_check, to_plan, to_generate, to_demonstrate, worker_limit}

abbrev pub order_told : Told → Order
order_told (Run name) = to_run name.now
order_told (Check name) = to_check name.now
order_told (Plan name) = to_plan name.now
order_told (Gen count) = to_generate count
order_told (Demo count) = to_demonstrate count

abbrev pub asked_told : Asked → Order
asked_told asked = order_told asked.order

-- it is asked for one worker at least, and for no more than may be asked for
abbrev pub IsForWorkers : Asked → Type 0
IsForWorkers asked = (1 ≤ asked.workers) × (asked.workers ≤ worker_limit)
