use Rattle.std.proofs.Common.{◌≡◌, map, take}
use Rattle.run_pool.specs.Entries.{entry_told}
use Rattle.run_pool.proofs.handed.all_copied.Given as goal

abbrev pub invariant-loop-handed : goal.invariant-loop-handed
invariant-loop-handed l = map entry_told l.copies.items ≡ map entry_told (take l.handed-index l.list)
