use Rattle.std.proofs.Common.{◌≡◌}
use Rattle.crossbeam_queue.specs.Passes.{IsPassOf}
use Rattle.shared_queue.proofs.queue.SharedQueue.put.Given as goal

abbrev pub invariant-loop : goal.invariant-loop
invariant-loop g l = IsPassOf l.self.ring l.pass × (l.value ≡ l.fn.value)
