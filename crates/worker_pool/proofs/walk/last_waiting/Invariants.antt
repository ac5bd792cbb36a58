use Rattle.std.proofs.Common.{vec_len}
use Rattle.worker_pool.specs.Pages.{AreWaiting}
use Rattle.worker_pool.proofs.walk.last_waiting.Given as goal

abbrev pub invariant-path : goal.invariant-path
invariant-path g l = AreWaiting l.plan l.page.items l.path.items

abbrev pub decreases-path : goal.decreases-path
decreases-path g l = vec_len l.path
