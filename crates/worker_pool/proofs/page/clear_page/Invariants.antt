use Rattle.std.proofs.Common.{◌≡◌}
use Rattle.worker_pool.specs.Pages.{empty_page}
use Rattle.worker_pool.proofs.page.clear_page.Given as goal

abbrev pub invariant-loop : goal.invariant-loop
invariant-loop g l = l.known.items ≡ empty_page l.counter
