use Rattle.std.proofs.Common.{◌≡◌, vec_len}
use Rattle.worker_pool.specs.Workers.{HaveTools}
use Rattle.worker_pool.proofs.crew.workers_for.Given as goal

abbrev pub invariant-loop : goal.invariant-loop
invariant-loop l = (vec_len l.workers ≡ l.counter) × HaveTools l.tables l.workers.items
