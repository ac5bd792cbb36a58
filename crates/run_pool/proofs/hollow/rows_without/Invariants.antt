use Rattle.std.proofs.Common.{◌≡◌, map, take}
use Rattle.run_pool.proofs.Empty.{empty_of}
use Rattle.run_pool.proofs.hollow.rows_without.Given as goal

abbrev pub invariant-loop-out : goal.invariant-loop-out
invariant-loop-out l = l.rows.items ≡ map empty_of (take l.out-index l.plan.outputs)
