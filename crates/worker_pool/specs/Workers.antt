-- Workers, and what they hold.
use Rattle.std.specs.Prelude.{◌≡◌, List, All, IsSomeAnd}
use Rattle.scalar_ops.specs.Tables.{Lists}
use Rattle.atomic_table.specs.Seated.{TableId}
use Rattle.run_tables.specs.Seats.{SitsAt}
use Rattle.worker_pool.specs.declared.crew.Worker.{Worker}

-- each worker has the tools of the tables
abbrev pub HaveTools : Lists → List Worker → Type 0
HaveTools lists workers = All (λ worker. worker.tools ≡ lists) workers

-- the worker has a seat at the table of claims, which stands for itself alone
abbrev pub HasSeat : TableId → Worker → Type 0
HasSeat table worker = IsSomeAnd worker.seat (SitsAt table)

abbrev pub HaveSeats : TableId → List Worker → Type 0
HaveSeats table workers = All (HasSeat table) workers
