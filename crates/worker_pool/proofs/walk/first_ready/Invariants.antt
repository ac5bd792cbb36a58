use Rattle.std.proofs.Common.{◌≡◌, None}
use Rattle.run_core.specs.Wanted.{IsWanted}
use Rattle.worker_pool.specs.Pages.{AreWaiting, known_at, rows_on}
use Rattle.worker_pool.proofs.walk.first_ready.Given as goal

abbrev pub invariant-down : goal.invariant-down
invariant-down g l = record {
  waiting : AreWaiting l.plan l.page.items l.path.items;
  wanted : IsWanted l.plan (rows_on l.page.items) l.n;
  unseen : known_at l.page.items l.n ≡ None;
}

abbrev pub decreases-down : goal.decreases-down
decreases-down g l = l.n
